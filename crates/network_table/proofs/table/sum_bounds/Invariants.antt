use Rattle.std.proofs.Common.{◌≡◌, ◌^◌, ◌-◌, take, get_or, min}
use Rattle.std.specs.List.{sum_by}
use Rattle.network_table.proofs.table.sum_bounds.Given as goal

abbrev pub invariant-loop-id : goal.invariant-loop-id
invariant-loop-id l = l.sum ≡ min (sum_by (λ id. get_or l.children.bounds.items id 0) (take l.id-index l.network.nodes)) (2 ^ 64 - 1)
