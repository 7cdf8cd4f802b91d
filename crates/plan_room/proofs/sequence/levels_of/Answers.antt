use Rattle.std.proofs.Common.{get_or, length, subst, sym, arith}
use Rattle.plan_room.specs.Ranks.{AreLevels}
use Rattle.plan_room.proofs.Ranked.{level_pushed, levels_none}
use Rattle.plan_room.proofs.sequence.levels_of.Goals as goal

pub loop-position-init : goal.loop-position-init
loop-position-init c =
    subst (AreLevels (λ a. get_or c.args.ranks.now a 0) (length c.args.ranks.now) 0) (sym c.in_ok-levels.ensures) (levels_none (λ a. get_or c.args.ranks.now a 0) (length c.args.ranks.now))

pub loop-position-preserved : goal.loop-position-preserved
loop-position-preserved c =
    let k = c.loop-position.position in
    level_pushed (λ a. get_or c.args.ranks.now a 0) c.loop-position.levels.items (length c.args.ranks.now) k c.index_mut.result.now c.push.new.self c.loop-position.invariant
    (c.requires k (omega arith)) c.index_mut.ensures.value c.in_ok-push.ensures.items
