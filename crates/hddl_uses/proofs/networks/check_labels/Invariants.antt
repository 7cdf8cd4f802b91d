use Rattle.std.proofs.Common.{take}
use Rattle.std.specs.List.{flat_map}
use Rattle.hddl_scope.specs.Findings.{AddsAny}
use Rattle.hddl_uses.specs.Labels.{IsUnknownLabel, names_of}
use Rattle.hddl_uses.proofs.networks.check_labels.Given as goal

abbrev pub invariant-loop-ordering : goal.invariant-loop-ordering
invariant-loop-ordering l = AddsAny (λ _ _. ⊥) (IsUnknownLabel l.context.source l.numbers) (flat_map names_of (take l.ordering-index l.orderings)) l.initial.found l.found
