use Rattle.std.proofs.Common.{◌≡◌, ℕ, length, get_or}
use Rattle.workers.specs.declared.shard.Shard.{Shard}
use Rattle.workers.proofs.set.reserve_all.Given as goal

-- all have what they had
abbrev pub invariant-loop-place : goal.invariant-loop-place
invariant-loop-place g l =
    record {
      len : length l.shards ≡ length l.fn.shards;
      same : (k : ℕ) (d : Shard g.row.T.Denot) → (get_or l.shards k d).values.keys ≡ (get_or l.fn.shards k d).values.keys;
    }
