use Rattle.call_nodes.specs.Nodes.{AreNodes}
use Rattle.call_finder.proofs.masks.list_all.Given as goal

-- the nodes stay those of the task
abbrev pub invariant-loop-place : goal.invariant-loop-place
invariant-loop-place l = AreNodes l.task l.nodes
