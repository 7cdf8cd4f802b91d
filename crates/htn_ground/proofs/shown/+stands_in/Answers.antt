use Rattle.std.proofs.Common.{◌≡◌, ◌∙◌, List, ap, sym}
use Rattle.std.specs.List.{list_any}
use Rattle.htn_task.specs.declared.formula.Formula.{Formula}
use Rattle.htn_task.specs.Formulas.{formula_of, formulas_view}
use Rattle.htn_ground.specs.Shown.{stands_in}
use Rattle.htn_ground.proofs.Bodies.{stands-body, stands_here, stands_nowhere, view-ForAll}
use Rattle.htn_ground.proofs.shown.+stands_in.Goals as goal

pub returns-then-stands_in : goal.returns-then-stands_in
returns-then-stands_in t c =
    let place = c.args.place in
    let items = c.deref-part-items.result.now in
    let whole : stands_in place (formula_of c.args.formula.now) ≡ list_any (stands_in place) (formulas_view c.in-ForAll.body.items) =
    ap (λ (f : Formula). stands_in place (formula_of f)) c.in-ForAll.is
    ∙ ap (stands_in place) (view-ForAll c.in-ForAll.field-0 c.in-ForAll.body)
    ∙ stands-body place (formulas_view c.in-ForAll.body.items) in
    stands_here place items c.loop-part.part-index c.part-item.result c.loop-part-test.true c.part-item.is c.if-stands_in.ensures
    ∙ c.loop-part.invariant
    ∙ ap (λ (l : List Formula). list_any (stands_in place) (formulas_view l)) c.deref-part-items.ensures.value
    ∙ sym whole

pub returns-after-loop-part : goal.returns-after-loop-part
returns-after-loop-part t c =
    let place = c.args.place in
    let items = c.deref-part-items.result.now in
    let whole : stands_in place (formula_of c.args.formula.now) ≡ list_any (stands_in place) (formulas_view c.in-ForAll.body.items) =
    ap (λ (f : Formula). stands_in place (formula_of f)) c.in-ForAll.is
    ∙ ap (stands_in place) (view-ForAll c.in-ForAll.field-0 c.in-ForAll.body)
    ∙ stands-body place (formulas_view c.in-ForAll.body.items) in
    stands_nowhere place items c.loop-part.part-index c.loop-part-test.false
    ∙ c.loop-part.invariant
    ∙ ap (λ (l : List Formula). list_any (stands_in place) (formulas_view l)) c.deref-part-items.ensures.value
    ∙ sym whole
