use Rattle.std.proofs.Common.{take}
use Rattle.hddl_scope.proofs.Distinctness.{Within}
use Rattle.hddl_scope.proofs.distinct.past_distinct.Given as goal

abbrev pub invariant-loop-mention : goal.invariant-loop-mention
invariant-loop-mention l = Within l.known l.first (take l.mention-index l.mentions)
