use Rattle.std.proofs.Common.{◌≡◌, ◌++◌, ◌∙◌, List, ap, sym, ℕ}
use Rattle.std.specs.List.{flat_map}
use Rattle.std.proofs.lemmas.List.{take_all}
use Rattle.htn_model.specs.Schema.{Term}
use Rattle.htn_model.specs.Instances.{formula_places}
use Rattle.htn_task.specs.declared.formula.Formula.{Formula}
use Rattle.htn_task.specs.Formulas.{formula_of, formulas_view}
use Rattle.htn_ground.specs.Places.{among, places_of}
use Rattle.htn_ground.proofs.Bodies.{places-body, view-ForAll}
use Rattle.htn_ground.proofs.conditions.+push_formula_places.Goals as goal

pub returns-after-loop-part : goal.returns-after-loop-part
returns-after-loop-part t c =
    let task = c.args.task.now in
    let start = places_of c.args.places.now.items in
    let whole : formula_places task (formula_of c.args.formula.now) ≡ flat_map (formula_places task) (formulas_view c.in-ForAll.body.items) =
    ap (λ (f : Formula). formula_places task (formula_of f)) c.in-ForAll.is
    ∙ ap (formula_places task) (view-ForAll c.in-ForAll.field-0 c.in-ForAll.body)
    ∙ places-body task (formulas_view c.in-ForAll.body.items) in
    c.loop-part.invariant
    ∙ ap (λ (l : List Formula). start ++ among c.args.count (flat_map (formula_places task) (formulas_view l)))
    (take_all c.loop-part.part-index c.deref-part-items.result.now c.loop-part-test.false ∙ c.deref-part-items.ensures.value)
    ∙ ap (λ (l : List (Term × ℕ)). start ++ among c.args.count l) (sym whole)
