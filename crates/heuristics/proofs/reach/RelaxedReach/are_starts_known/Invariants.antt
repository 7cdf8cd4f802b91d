use Rattle.std.proofs.Common.{All, take}
use Rattle.heuristics.specs.CheckedReach.{IsStartKnown}
use Rattle.heuristics.proofs.reach.RelaxedReach.are_starts_known.Given as goal

abbrev pub invariant-loop-instance : goal.invariant-loop-instance
invariant-loop-instance l = All (IsStartKnown l.self) (take l.instance-index l.instance-items)
