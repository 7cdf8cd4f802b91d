use Rattle.std.proofs.Common.{get_or, length, subst, ap, arith}
use Rattle.std.proofs.lemmas.Bool.{both_ways}
use Rattle.htn_model.specs.PlanFile.{IsIn}
use Rattle.plan_room.specs.Deepest.{HasOwnRoom}
use Rattle.plan_room.specs.Seats.{children_of}
use Rattle.plan_room.proofs.Own.{in_at, place_in}
use Rattle.plan_room.proofs.deepest.child_without_room.Goals as goal

pub returns-then-not-branch-clause-child : goal.returns-then-not-branch-clause-child
returns-then-not-branch-clause-child g c =
    let l = g.L.PlanLines.lines c.args.lines.now in
    let items = c.children_of-child-items.result.now in
    let child = get_or items c.loop-child.child-index 0 in
    let there : IsIn child items = in_at items c.loop-child.child-index c.loop-child-test.true in (
      subst (IsIn child) c.children_of-child-items.ensures there,
      (let s = c.if-actions-child.true in let e = c.actions-actions.ensures in omega arith),
      λ room. both_ways c.in_ok-has_own_room.field-0 c.if-not-branch.true (c.in_ok-has_own_room.ensures.room.1 room),
    )

pub returns-clause-child : goal.returns-clause-child
returns-clause-child g c line there =
    let l = g.L.PlanLines.lines c.args.lines.now in
    let (j, low, is) = place_in line (children_of l c.args.line) there in
    subst (HasOwnRoom l) is (c.loop-child.invariant.before j (let past = c.loop-child-test.false in let e = ap length c.children_of-child-items.ensures in omega arith))
