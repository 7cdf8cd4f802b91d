use Rattle.std.proofs.Common.{map, take}
use Rattle.task_graph.specs.Growth.{HasNetworks}
use Rattle.task_graph.proofs.graph.TaskGraph.add_networks.Given as goal

abbrev pub invariant-loop-instance : goal.invariant-loop-instance
invariant-loop-instance l = HasNetworks l.task l.id.index (map (λ i. i.network) (take l.instance-index l.instances)) l.initial.self l.self
