use Rattle.std.proofs.Common.{take}
use Rattle.hddl_warnings.specs.Tells.{Tells}
use Rattle.hddl_warnings.proofs.Schemas.{InActions, InMethods}
use Rattle.hddl_warnings.proofs.parameters.tell_schemas.Given as goal

abbrev pub invariant-loop-method : goal.invariant-loop-method
invariant-loop-method l = Tells l.initial.out.items l.out.items (InMethods (take l.method-index l.method-items))

abbrev pub invariant-loop-action : goal.invariant-loop-action
invariant-loop-action l = Tells l.initial.out.items l.out.items (InActions (take l.action-index l.action-items))
