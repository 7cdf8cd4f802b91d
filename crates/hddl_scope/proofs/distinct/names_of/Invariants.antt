use Rattle.std.proofs.Common.{take}
use Rattle.hddl_scope.specs.Repeats.{AreNamesOf}
use Rattle.hddl_scope.proofs.distinct.names_of.Given as goal

abbrev pub invariant-loop-mention : goal.invariant-loop-mention
invariant-loop-mention l = AreNamesOf l.known (take l.mention-index l.mentions)
