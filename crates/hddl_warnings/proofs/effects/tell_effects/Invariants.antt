use Rattle.std.proofs.Common.{take}
use Rattle.hddl_warnings.specs.Tells.{Tells}
use Rattle.hddl_warnings.proofs.Opposed.{AnyOpposed}
use Rattle.hddl_warnings.proofs.effects.tell_effects.Given as goal

abbrev pub invariant-loop-action : goal.invariant-loop-action
invariant-loop-action l = Tells l.initial.out.items l.out.items (AnyOpposed (take l.action-index l.action-items))
