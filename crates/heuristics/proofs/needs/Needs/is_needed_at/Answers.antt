use Rattle.std.proofs.Common.{◌∙◌, Contains, sym, subst, arith}
use Rattle.std.proofs.lemmas.List.{length-map}
use Rattle.htn_ground.specs.Views.{child_view}
use Rattle.htn_model.specs.Problem.{Child}
use Rattle.htn_task.specs.Literals.{literal_of, literals_of}
use Rattle.heuristics.specs.Rows.{outlook_of}
use Rattle.heuristics.proofs.Within.{contains_equal, node_at, ungiven_parts}
use Rattle.heuristics.proofs.needs.Needs.is_needed_at.Goals as goal

pub returns : goal.returns
returns c = λ passes.
    let children = c.args.children.now in
    let l = literal_of c.args.literal.now in
    let o = outlook_of c.args.self.now in
    record {
      within = omega (arith, c.requires, length-map children child_view);
      wants =
          subst (λ (x : Child). Contains (o.wants x) l) (sym (node_at children c.args.at c.index-children-at.result c.requires c.index-children-at.is))
          (subst (λ ls. Contains ls l) c.wants.ensures (contains_equal (literals_of c.wants.result.now) l (sym c.is_among.ensures ∙ c.if-not-is_among.false)));
      ungiven = ungiven_parts c.args.self.now children c.args.order.now l c.args.at (sym c.is_ungiven.ensures ∙ passes);
    }
