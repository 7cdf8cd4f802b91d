use Rattle.std.proofs.Common.{get_or, Some, sym, ap, subst, ◌∙◌, arith}
use Rattle.htn_ground.specs.Views.{child_view}
use Rattle.htn_model.specs.Equality.{child_eq-decides}
use Rattle.htn_model.specs.Fits.{child_of}
use Rattle.htn_model.specs.PlanFile.{IsIn}
use Rattle.plan_room.proofs.Own.{in_at}
use Rattle.plan_room.proofs.Suited.{looked}
use Rattle.room_causes.proofs.nodes.child_at.Goals as goal

pub returns-then-takes_line-clause-child : goal.returns-then-takes_line-clause-child
returns-then-takes_line-clause-child g c =
    let l = g.L.PlanLines.lines c.args.lines.now in
    let items = c.children_of-children.result.now in
    let line = get_or items c.args.place 0 in (
      subst (IsIn line) c.children_of-children.ensures (in_at items c.args.place (omega arith)),
      looked c.as_slice.result.now c.args.instance.now.network.children c.args.position c.in-Some.child.now (c.as_slice.ensures ∙ c.children.ensures) c.in-Some.ensures.lookup.0 c.in-Some.ensures.lookup.1
          ∙ ap Some ((child_eq-decides (child_view c.in-Some.child.now) (child_of (l.plan_of line))).0 (sym c.takes_line.ensures ∙ c.if-takes_line.true)),
    )
