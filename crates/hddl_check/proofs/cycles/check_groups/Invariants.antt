use Rattle.std.proofs.Common.{take}
use Rattle.hddl_meaning.specs.Mentions.{typed_names}
use Rattle.hddl_scope.specs.Findings.{AddsAny}
use Rattle.hddl_check.specs.Cycles.{CycleFails}
use Rattle.hddl_check.proofs.cycles.check_groups.Given as goal

abbrev pub invariant-loop-group : goal.invariant-loop-group
invariant-loop-group l = AddsAny (λ _ _. ⊥) (CycleFails l.types) (typed_names (take l.group-index l.groups)) l.initial.found l.found
