use Rattle.heuristics.specs.ReachTables.{reach_of}
use Rattle.heuristics.proofs.CheckedReach.{PassBelow}
use Rattle.heuristics.proofs.reach.RelaxedReach.are_instances_right.Given as goal

abbrev pub invariant-loop-decomposition : goal.invariant-loop-decomposition
invariant-loop-decomposition l = PassBelow (reach_of l.self) l.graph l.decomposition-index
