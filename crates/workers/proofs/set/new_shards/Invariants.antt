use Rattle.std.proofs.Common.{◌≡◌, [], length, All}
use Rattle.workers.specs.declared.shard.Shard.{Shard}
use Rattle.workers.proofs.set.new_shards.Given as goal

-- so many were made
abbrev pub invariant-loop : goal.invariant-loop
invariant-loop g l =
    record {
      len : length l.shards.items ≡ l.counter;
      none : All (λ (s : Shard g.row.T.Denot). s.values.keys ≡ []) l.shards.items;
    }
