use Rattle.std.proofs.Common.{◌≡◌, ◌<◌, ◌++◌, ℕ, List, length, take, drop, get_or, take_at, sym, ap, subst, ◌∙◌, arith}
use Rattle.workers.specs.Shards.{AreSharded, TakesBatch}
use Rattle.workers.specs.declared.shard.Shard.{Shard}
use Rattle.workers.proofs.Sharing.{sharded_back, written_back}
use Rattle.workers.proofs.set.ShardedSet.insert_all.Goals as goal

pub invariant_of-self-in-Err-1 : goal.invariant_of-self-in-Err-1
invariant_of-self-in-Err-1 g c =
    let eq = g.T.PartialEq.eq in
    let feed = g.T.Hash.hash_input in
    let inside = c.self.inside in
    let old = inside.shards in
    let new = c.add_batch.new.shards in
    let more = c.as_mut_slice.result.now in
    let gave = c.give_back.new.shards in
    let batch = c.args.batch.now in
    let items = c.as_mut_slice-shards.ensures.value in
    let mid : List (Shard g.row.T.Denot) = take old.len (new ++ drop (length new) old.items) in
    let front : mid ≡ new = written_back old.len new old.items (omega (arith, c.add_batch.ensures.len, c.as_mut_slice-shards.ensures.len)) in
    let whole : more ≡ new = c.as_mut_slice.ensures.value ∙ front in
    let many : length more ≡ length old.items = ap length whole ∙ c.add_batch.ensures.len ∙ ap length items in
    let back : take old.len (gave ++ drop (length gave) mid) ≡ gave = written_back old.len gave mid (omega (arith, c.give_back.ensures.len, many, old.ok.0)) in
    let took = λ (k : ℕ) (d : Shard g.row.T.Denot) (low : k < length old.items). (
    let inner : k < length c.as_mut_slice-shards.result.now = omega (arith, ap length items) in
    subst (λ (l : List (Shard g.row.T.Denot)). TakesBatch eq feed k (length old.items) batch (get_or old.items k d) (get_or l k d)) (sym whole)
    (subst (λ (l : List (Shard g.row.T.Denot)). TakesBatch eq feed k (length l) batch (get_or l k d) (get_or new k d)) items (c.add_batch.ensures.each k d inner))) in
    let grown = c.in-Err.ensures.err in
    let values : c.truncate.new.self.items ≡ inside.values.items =
    c.truncate.ensures.items ∙ ap (take c.len-known.result) grown.1 ∙ take_at inside.values.items grown.0 c.len-known.result (omega (arith, c.len-known.ensures, inside.values.ok.0)) in
    subst (λ l. AreSharded eq feed l (take old.len (gave ++ drop (length gave) mid))) (sym values)
    (subst (λ (l : List (Shard g.row.T.Denot)). AreSharded eq feed inside.values.items l) (sym back)
    (sharded_back eq feed inside.values.items batch old.items more gave c.self.invariant many c.give_back.ensures.len took c.give_back.ensures.each))
