use Rattle.call_nodes.specs.Nodes.{AreNodes}
use Rattle.call_finder.proofs.whole.WholeCalls.exits_in.Given as goal

-- the nodes stay those of the task
abbrev pub invariant-loop-exit : goal.invariant-loop-exit
invariant-loop-exit l = AreNodes l.task l.nodes
