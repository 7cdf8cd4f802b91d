use Rattle.std.proofs.Common.{take}
use Rattle.hddl_scope.specs.Findings.{Adds}
use Rattle.hddl_uses.specs.Contexts.{AnyArgumentFails}
use Rattle.hddl_uses.proofs.arguments.check_arguments.Given as goal

abbrev pub invariant-loop-index : goal.invariant-loop-index
invariant-loop-index l = Adds (λ _. ⊥) (AnyArgumentFails l.context l.scope (take l.index l.arguments) l.places) l.initial.found l.found
