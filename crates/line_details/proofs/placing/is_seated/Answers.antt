use Rattle.std.proofs.Common.{◌∙◌, sym, ap, subst, refl, Some}
use Rattle.htn_ground.specs.Views.{child_view, children_of}
use Rattle.htn_model.specs.Equality.{child_eq-decides}
use Rattle.htn_model.specs.Fits.{child_of}
use Rattle.line_details.specs.Entries.{IsPlacedIn, spans_of}
use Rattle.plan_room.proofs.Suited.{looked}
use Rattle.line_details.proofs.placing.is_seated.Goals as goal

pub returns-then-takes_line : goal.returns-then-takes_line
returns-then-takes_line g c =
    let l = g.L.PlanLines.lines c.args.lines.now in
    let entries = c.args.entries.now in
    let i = c.args.line in
    let node = c.in-Some.node.now in
    let same = (child_eq-decides (child_view node) (child_of (l.plan_of i))).0 (sym (c.takes_line.ensures) ∙ c.if-takes_line.true) in
    λ yes. (
      looked c.args.nodes.now (children_of c.args.nodes.now) c.args.position node refl c.in-Some.ensures.lookup.0 c.in-Some.ensures.lookup.1 ∙ ap Some same,
      subst (λ h. IsPlacedIn l entries i ((spans_of c.args.entry.now).start c.args.position) h) c.finish_at.ensures (subst (λ k. IsPlacedIn l entries i k c.finish_at.result) c.start_at.ensures (c.is_placed.ensures yes)),
    )
