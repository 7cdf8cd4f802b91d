use Rattle.std.proofs.Common.{◌≡◌, ℕ, ◌<◌, ◌≤◌, length, get_or, take}
use Rattle.workers.specs.declared.shard.Shard.{Shard}
use Rattle.workers.proofs.set.give_back.Given as goal

-- those so far gave back, and the others are as they were
abbrev pub invariant-loop-place : goal.invariant-loop-place
invariant-loop-place g l =
    record {
      len : length l.shards ≡ length l.fn.shards;
      done : (k : ℕ) (d : Shard g.row.T.Denot) → k < l.place
          → (get_or l.shards k d).values.keys ≡ take (get_or l.fn.shards k d).known (get_or l.fn.shards k d).values.keys;
      rest : (k : ℕ) (d : Shard g.row.T.Denot) → l.place ≤ k → get_or l.shards k d ≡ get_or l.fn.shards k d;
    }
