use Rattle.std.proofs.Common.{take}
use Rattle.hddl_scope.proofs.Repeating.{Read}
use Rattle.hddl_scope.proofs.repeated.repeats.Given as goal

abbrev pub invariant-loop-mention : goal.invariant-loop-mention
invariant-loop-mention l = Read l.known (take l.mention-index l.mentions) l.places.items
