use Rattle.call_nodes.specs.Nodes.{AreNodes}
use Rattle.call_finder.proofs.trail.Trail.start.Given as goal

-- the nodes stay those of the task
abbrev pub invariant-loop-rank : goal.invariant-loop-rank
invariant-loop-rank l = AreNodes l.task l.nodes
