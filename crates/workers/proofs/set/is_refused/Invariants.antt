use Rattle.std.proofs.Common.{◌≡◌, false, take}
use Rattle.std.specs.List.{list_any}
use Rattle.workers.specs.declared.shard.Shard.{Shard}
use Rattle.workers.proofs.set.is_refused.Given as goal

-- none was refused memory so far
abbrev pub invariant-loop-shard : goal.invariant-loop-shard
invariant-loop-shard g l = list_any (λ (s : Shard g.row.T.Denot). s.is_refused) (take l.shard-index l.shards) ≡ false
