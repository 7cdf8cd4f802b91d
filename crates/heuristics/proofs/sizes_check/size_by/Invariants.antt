use Rattle.std.proofs.Common.{◌≡◌, ◌+◌, ◌-◌, ◌^◌, min, take}
use Rattle.std.specs.List.{sum_by}
use Rattle.heuristics.specs.Sizes.{size_at}
use Rattle.heuristics.proofs.sizes_check.size_by.Given as goal

abbrev pub invariant-loop-node : goal.invariant-loop-node
invariant-loop-node l = l.size ≡ min (1 + sum_by (λ i. size_at l.sizes i.index) (take l.node-index l.decomposition.nodes.items)) (2 ^ 64 - 1)
