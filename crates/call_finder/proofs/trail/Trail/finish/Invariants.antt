use Rattle.call_nodes.specs.Nodes.{AreNodes}
use Rattle.call_finder.proofs.trail.Trail.finish.Given as goal

-- the nodes stay those of the task
abbrev pub invariant-loop : goal.invariant-loop
invariant-loop l = AreNodes l.task l.nodes
