use Rattle.call_nodes.specs.Nodes.{AreNodes}
use Rattle.call_finder.proofs.whole.WholeCalls.rules_in.Given as goal

-- the nodes stay those of the task
abbrev pub invariant-loop-rule : goal.invariant-loop-rule
invariant-loop-rule l = AreNodes l.task l.nodes
