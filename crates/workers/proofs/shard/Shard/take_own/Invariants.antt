use Rattle.std.proofs.Common.{◌≡◌, ◌++◌, List, take}
use Rattle.workers.specs.Shards.{HasTaken}
use Rattle.workers.proofs.shard.Shard.take_own.Given as goal

-- the values so far were taken
abbrev pub invariant-loop-value : goal.invariant-loop-value
invariant-loop-value g l =
    record {
      grown : (more : List g.row.T.Denot) × (l.self.values.keys ≡ l.fn.self.values.keys ++ more);
      taken : HasTaken g.T.PartialEq.eq g.T.Hash.hash_input l.number l.count (take l.value-index l.batch) l.fn.self.values.keys l.self.values.keys l.self.is_new.items;
    }
