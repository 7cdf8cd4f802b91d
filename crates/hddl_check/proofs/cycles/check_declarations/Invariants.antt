use Rattle.std.proofs.Common.{take}
use Rattle.hddl_scope.specs.Findings.{AddsAny}
use Rattle.hddl_names.specs.Cycles.{typed_name}
use Rattle.hddl_check.specs.Cycles.{CycleFails}
use Rattle.hddl_check.proofs.cycles.check_declarations.Given as goal

abbrev pub invariant-loop-name : goal.invariant-loop-name
invariant-loop-name l = AddsAny (λ _ _. ⊥) (λ x. CycleFails l.types (typed_name l.parent x)) (take l.name-index l.names) l.initial.found l.found
