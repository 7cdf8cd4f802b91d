use Rattle.std.proofs.Common.{◌≡◌, ℕ, ◌<◌, [], length, get_or}
use Rattle.workers.specs.declared.shard.Shard.{Shard}
use Rattle.workers.proofs.set.clear_all.Given as goal

-- those so far have none
abbrev pub invariant-loop-place : goal.invariant-loop-place
invariant-loop-place g l =
    record {
      len : length l.shards ≡ length l.fn.shards;
      done : (k : ℕ) (d : Shard g.row.T.Denot) → k < l.place → (get_or l.shards k d).values.keys ≡ [];
    }
