use Rattle.std.proofs.Common.{◌≡◌, [], ◌+◌, All, length, ap, sym, subst, ◌∙◌}
use Rattle.std.proofs.lemmas.List.{length_push}
use Rattle.std.proofs.lemmas.List.Elements.{All-push}
use Rattle.workers.specs.declared.shard.Shard.{Shard}
use Rattle.workers.proofs.set.new_shards.Goals as goal

pub loop-preserved : goal.loop-preserved
loop-preserved g c =
    let shards = c.loop.shards.items in
    let was = c.loop.invariant in
    let items = c.in_ok-push.ensures.items in
    record {
      len = ap length items ∙ length_push shards c.new.result ∙ ap (λ n. n + 1) was.len;
      none = subst (All (λ (s : Shard g.row.T.Denot). s.values.keys ≡ [])) (sym items) (All-push (λ (s : Shard g.row.T.Denot). s.values.keys ≡ []) shards c.new.result was.none c.new.ensures);
    }
