use Rattle.std.proofs.Common.{◌-◌, nat_eq, length, get_or, ap, refl, ◌∙◌, arith}
use Rattle.plan_picture.specs.Seen.{seen_all}
use Rattle.plan_picture.proofs.Pushed.{one_pushed, none_pushed}
use Rattle.plan_picture.proofs.walk.push_siblings.Goals as goal

pub loop-left-init : goal.loop-left-init
loop-left-init c = record {
  within = omega arith;
  there = none_pushed (seen_all c.args.waiting.now.items) c.args.parent c.args.depth c.args.above.now c.args.lines.now (length c.args.lines.now) refl;
}

pub loop-left-preserved : goal.loop-left-preserved
loop-left-preserved c =
    let lines = c.args.lines.now in
    let left = c.loop-left.left in
    let above = c.in_ok-from_slice.field-0 in
    record {
      within = omega arith;
      there = ap seen_all c.in_ok-push.ensures.items
          ∙ one_pushed (seen_all c.args.waiting.now.items) c.loop-left.waiting.items
          (record { line = get_or lines (left - 1) 0; parent = c.args.parent; depth = c.args.depth; above = above; is_last = nat_eq left (length lines) })
          c.args.parent c.args.depth c.args.above.now lines left (left - 1) (omega arith) c.loop-left.invariant.within c.loop-left.invariant.there refl refl refl c.in_ok-from_slice.ensures.items refl;
    }
