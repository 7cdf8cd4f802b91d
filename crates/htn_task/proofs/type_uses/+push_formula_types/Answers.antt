use Rattle.std.proofs.Common.{◌≡◌, ◌++◌, ◌∙◌, List, ap, sym, append_assoc, ℕ}
use Rattle.std.specs.List.{flat_map}
use Rattle.std.proofs.lemmas.List.{take_all}
use Rattle.htn_model.specs.Task.{formula_types}
use Rattle.htn_task.specs.declared.formula.Formula.{Formula}
use Rattle.htn_task.specs.Formulas.{formula_of, formulas_view}
use Rattle.htn_task.proofs.Bodies.{types-ForAll}
use Rattle.htn_task.proofs.type_uses.+push_formula_types.Goals as goal

pub returns-after-loop-part : goal.returns-after-loop-part
returns-after-loop-part t c =
    let start = c.args.found.now.items in
    let types = c.in-ForAll.types in
    let body = c.in-ForAll.body in
    let inside : List ℕ = flat_map formula_types (formulas_view body.items) in
    let whole : formula_types (formula_of c.args.formula.now) ≡ types.items ++ inside =
    ap (λ (f : Formula). formula_types (formula_of f)) c.in-ForAll.is ∙ types-ForAll types body in
    c.loop-part.invariant
    ∙ ap (λ (l : List Formula). c.extend_from_slice.new.self.items ++ flat_map formula_types (formulas_view l))
    (take_all c.loop-part.part-index c.deref-part-items.result.now c.loop-part-test.false ∙ c.deref-part-items.ensures.value)
    ∙ ap (λ (l : List ℕ). l ++ inside) (c.in_ok-extend_from_slice-in-ForAll.ensures.items ∙ ap (λ (l : List ℕ). start ++ l) c.deref.ensures.value)
    ∙ append_assoc start types.items inside
    ∙ ap (λ (l : List ℕ). start ++ l) (sym whole)
