use Rattle.std.proofs.Common.{subst}
use Rattle.plan_room.specs.Deepest.{IsChildOf, IsChildWithoutRoom}
use Rattle.plan_room.proofs.Own.{all_below, child_line, child_smaller, stands_lower}
use Rattle.plan_room.proofs.deepest.deepest_without_room.Goals as goal

pub loop-memo-smaller : goal.loop-memo-smaller
loop-memo-smaller g c =
    let l = g.L.PlanLines.lines c.args.lines.now in
    let blocked = subst (IsChildWithoutRoom l c.loop-memo.line) c.in-Some.is c.in_ok-child.ensures.child in
    let is_child : IsChildOf l c.loop-memo.line c.in-Some.child = (c.loop-memo.invariant.is_line, blocked.0) in
    child_smaller l c.requires c.loop-memo.line c.in-Some.child is_child

pub loop-memo-preserved : goal.loop-memo-preserved
loop-memo-preserved g c =
    let l = g.L.PlanLines.lines c.args.lines.now in
    let blocked = subst (IsChildWithoutRoom l c.loop-memo.line) c.in-Some.is c.in_ok-child.ensures.child in
    let is_child : IsChildOf l c.loop-memo.line c.in-Some.child = (c.loop-memo.invariant.is_line, blocked.0) in
    record {
      memo = c.in_ok-child.ensures.memo;
      is_line = child_line l c.requires c.loop-memo.line c.in-Some.child is_child blocked.1;
      stands = stands_lower l c.requires c.loop-memo.line c.in-Some.child c.loop-memo.invariant.stands is_child;
      blocked = blocked.2;
    }

pub returns : goal.returns
returns g c =
    let l = g.L.PlanLines.lines c.args.lines.now in
    record {
      line = c.loop-memo.invariant.is_line;
      stands = c.loop-memo.invariant.stands;
      blocked = c.loop-memo.invariant.blocked;
      below = all_below l c.requires c.loop-memo.line (subst (IsChildWithoutRoom l c.loop-memo.line) c.in_default.is c.in_ok-child.ensures.child);
    }
