use Rattle.std.proofs.Common.{◌≡◌, false, sym, subst, ◌∙◌}
use Rattle.std.proofs.lemmas.Result.{on_ok_weaker}
use Rattle.std.specs.List.{list_any}
use Rattle.std.specs.Cmp.{IsEquivalence}
use Rattle.workers.specs.Shards.{AreSharded}
use Rattle.workers.specs.declared.shard.Shard.{Shard}
use Rattle.workers.proofs.Sharing.{marks_long, new_so, sharded_more}
use Rattle.workers.proofs.set.add_batch.Goals as goal

pub push_new-requires-clause-new : goal.push_new-requires-clause-new
push_new-requires-clause-new g c =
    new_so g.T.PartialEq.eq (g.met.T.Eq g.world.𝓛 g.world.𝓜 g.world.𝓡 ((λ s x. x), (λ x. x), (λ x. x), λ x. x)).laws g.T.Hash.hash_input c.args.values.now.items c.args.batch.now c.args.shards.now c.take_batch.new.shards
    c.requires.sharded c.take_batch.ensures.len c.take_batch.ensures.each (sym c.is_refused.ensures ∙ c.if-is_refused.false)

pub push_new-requires-clause-long : goal.push_new-requires-clause-long
push_new-requires-clause-long g c =
    marks_long g.T.PartialEq.eq (g.met.T.Eq g.world.𝓛 g.world.𝓜 g.world.𝓡 ((λ s x. x), (λ x. x), (λ x. x), λ x. x)).laws g.T.Hash.hash_input c.args.values.now.items c.args.batch.now c.args.shards.now c.take_batch.new.shards
    c.requires.sharded c.take_batch.ensures.len c.take_batch.ensures.each (sym c.is_refused.ensures ∙ c.if-is_refused.false)

pub returns-clause-sharded : goal.returns-clause-sharded
returns-clause-sharded g c =
    let eq = g.T.PartialEq.eq in
    let feed = g.T.Hash.hash_input in
    on_ok_weaker c.push_new.result
    (λ told. subst (λ v. AreSharded eq feed v c.take_batch.new.shards) (sym told.0)
    (sharded_more eq (g.met.T.Eq g.world.𝓛 g.world.𝓜 g.world.𝓡 ((λ s x. x), (λ x. x), (λ x. x), λ x. x)).laws feed c.args.values.now.items c.args.batch.now c.args.shards.now c.take_batch.new.shards
    c.requires.sharded c.take_batch.ensures.len c.take_batch.ensures.each (sym c.is_refused.ensures ∙ c.if-is_refused.false)))
    c.push_new.ensures.ok
