use Rattle.std.proofs.Common.{ap, arith, get_or, subst, true, ◌≡◌, ◌∙◌}
use Rattle.htn_model.specs.Atom.{Atom}
use Rattle.htn_ground.proofs.Marked.{marked_more}
use Rattle.htn_ground.proofs.narrowed.marks_of.Goals as goal

pub loop-atom-preserved : goal.loop-atom-preserved
loop-atom-preserved c values =
    marked_more values c.args.terms.now c.args.atoms.now c.args.place c.loop-atom.atom-index c.atom-item.result c.loop-atom.marks.items c.mark_by.new.marks.items
    c.loop-atom-test.true c.atom-item.is c.mark_by.ensures.others (c.mark_by.ensures.marked values) (c.loop-atom.invariant values)

pub returns : goal.returns
returns c values a within e =
    let marks = c.loop-atom.marks.items in
    subst (λ (x : Atom). get_or marks (get_or x.arguments c.args.place 0) true ≡ true) within.2
    (c.loop-atom.invariant values within.0 a (omega (arith, within.1)) (ap (λ (x : Atom). x.arguments) within.2 ∙ e))
