use Rattle.call_nodes.specs.Nodes.{AreNodes}
use Rattle.call_finder.proofs.chart.Chart.advance.Given as goal

-- the nodes stay those of the task
abbrev pub invariant-loop-total : goal.invariant-loop-total
invariant-loop-total l = AreNodes l.task l.nodes
