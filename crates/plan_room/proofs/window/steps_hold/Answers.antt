use Rattle.std.proofs.Common.{◌≤◌, ◌∙◌, length, false, refl, ap, arith}
use Rattle.std.proofs.lemmas.Bool.{both_ways}
use Rattle.std.proofs.lemmas.List.{length-map}
use Rattle.htn_ground.specs.Views.{child_view}
use Rattle.plan_room.proofs.Windowed.{hold_all, hold_more, node_at}
use Rattle.plan_room.proofs.window.steps_hold.Goals as goal

pub returns-then-not-may_hold : goal.returns-then-not-may_hold
returns-then-not-may_hold g c =
    let xs = c.as_slice-child-items.result.now in
    let nodes = c.args.instance.now.network.children in
    let i = c.loop-child.child-index in
    let at = node_at xs nodes i c.child-item.result (c.as_slice-child-items.ensures ∙ c.children-nodes.ensures) c.loop-child-test.true c.child-item.is in (
      (λ yes. absurd (both_ways false refl yes)),
      (λ hold. absurd (both_ways false refl (c.if-not-may_hold.ensures.1 (hold i (child_view c.child-item.result) at)))),
    )

pub loop-child-preserved : goal.loop-child-preserved
loop-child-preserved g c =
    let l = g.L.PlanLines.lines c.args.lines.now in
    let xs = c.as_slice-child-items.result.now in
    let nodes = c.args.instance.now.network.children in
    let i = c.loop-child.child-index in
    let at = node_at xs nodes i c.child-item.result (c.as_slice-child-items.ensures ∙ c.children-nodes.ensures) c.loop-child-test.true c.child-item.is in
    hold_more l.states c.args.window.first c.args.window.last nodes i (child_view c.child-item.result) at (c.if-not-may_hold.ensures.0 refl) c.loop-child.invariant

pub returns : goal.returns
returns g c =
    let l = g.L.PlanLines.lines c.args.lines.now in
    let xs = c.as_slice-child-items.result.now in
    let nodes = c.args.instance.now.network.children in
    let i = c.loop-child.child-index in
    let long = length-map xs child_view in
    let same = ap length (c.as_slice-child-items.ensures ∙ c.children-nodes.ensures) in
    let past : length nodes ≤ i = let e = c.loop-child-test.false in omega arith in (
      (λ yes. hold_all l.states c.args.window.first c.args.window.last nodes i past c.loop-child.invariant),
      (λ hold. refl),
    )
