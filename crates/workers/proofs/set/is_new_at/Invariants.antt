use Rattle.std.proofs.Common.{◌≡◌, false, take, get_or}
use Rattle.std.specs.List.{list_any}
use Rattle.workers.specs.declared.shard.Shard.{Shard}
use Rattle.workers.proofs.set.is_new_at.Given as goal

-- it was new to none so far
abbrev pub invariant-loop-shard : goal.invariant-loop-shard
invariant-loop-shard g l = list_any (λ (s : Shard g.row.T.Denot). get_or s.is_new.items l.place false) (take l.shard-index l.shards) ≡ false
