-- The types in the body of a `forall`.
use Rattle.std.proofs.Common.{◌≡◌, ◌++◌, ◌∷◌, ◌∙◌, Global, List, Vec, [], ap, refl, rules, ℕ}
use Rattle.std.specs.List.{flat_map}
use Rattle.htn_model.specs.Schema as model
use Rattle.htn_model.specs.Task.{formula_types, formulas_types}
use Rattle.htn_task.specs.declared.formula.Formula.{Formula, ForAll, the_lemmas}
use Rattle.htn_task.specs.Formulas.{formula_of, formulas_view}

-- a `forall` as the model has it: its types, and its body as a list
view-ForAll : (types : Vec ℕ Global) (body : Vec Formula Global) → formula_of (ForAll types body) ≡ model.for_all types.items (model.formulas_of (formulas_view body.items))
view-ForAll types body = search (rules, the_lemmas)

-- the types in a body are those of its formulas, one after the other
types-body : (fs : List model.Formula) → formulas_types (model.formulas_of fs) ≡ flat_map formula_types fs
types-body [] = refl
types-body (f ∷ fs) = ap (λ l. formula_types f ++ l) (types-body fs)

-- its own types, and then those in its body
pub types-ForAll : (types : Vec ℕ Global) (body : Vec Formula Global)
    → formula_types (formula_of (ForAll types body)) ≡ types.items ++ flat_map formula_types (formulas_view body.items)
types-ForAll types body = ap formula_types (view-ForAll types body) ∙ ap (λ l. types.items ++ l) (types-body (formulas_view body.items))
