use Rattle.std.proofs.Common.{◌≡◌, ◌+◌, ◌-◌, ◌^◌, length, min, take}
use Rattle.std.specs.List.{sum_by}
use Rattle.task_graph.proofs.extend.cost_of.Given as goal

abbrev pub invariant-loop-instance : goal.invariant-loop-instance
invariant-loop-instance l = l.cost ≡ min (1 + sum_by (λ i. 1 + length i.network.children) (take l.instance-index l.instances)) (2 ^ 64 - 1)
