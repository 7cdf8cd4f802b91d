use Rattle.std.proofs.Common.{◌++◌, get_or, length, ap, ap₂, sym, ◌∙◌, arith}
use Rattle.plan_room.proofs.Ranked.{level_at, levels_more, starts_more, starts_none}
use Rattle.plan_room.proofs.sequence.by_rank.Goals as goal

pub loop-rank-init : goal.loop-rank-init
loop-rank-init c = record {
  sequence = c.in_ok-sequence.ensures.items;
  starts = starts_none (λ a. get_or c.args.ranks.now a 0) (length c.args.ranks.now) c.in_ok-starts.starts.items (ap length c.in_ok-starts.ensures.items);
}

pub loop-rank-preserved : goal.loop-rank-preserved
loop-rank-preserved c =
    let ranks = c.args.ranks.now in
    let n = length ranks in
    let r = c.loop-rank.rank in
    let inv = c.loop-rank.invariant in
    let list = level_at (λ a. get_or ranks a 0) c.in_ok-levels.levels.items n n r c.index.result.now c.in_ok-levels.ensures (omega arith) c.index.ensures in
    record {
      sequence = c.in_ok-extend_from_slice.ensures.items ∙ ap₂ (λ xs ys. xs ++ ys) inv.sequence (c.as_slice.ensures.value ∙ list) ∙ sym (levels_more (λ a. get_or ranks a 0) n r);
      starts = starts_more (λ a. get_or ranks a 0) n r c.len.result c.loop-rank.starts.items c.push.new.self.items inv.starts c.in_ok-push.ensures.items
          (c.len.ensures ∙ c.loop-rank.sequence.ok.0 ∙ ap length inv.sequence);
    }
