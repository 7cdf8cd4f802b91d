-- A formula of a list, as the model sees it.
use Rattle.std.proofs.Common.{◌≡◌, ◌<◌, ◌∙◌, ◌∷◌, Bool, List, [], ap, arith, false, get_or, length, rules, subst, suc, sym, zero, ℕ}
use Rattle.std.specs.List.{Contains}
use Rattle.htn_model.specs.Schema as model
use Rattle.htn_model.specs.Schema.{AtomSchema}
use Rattle.htn_model.specs.Grounding.{is_changed}
use Rattle.htn_model.specs.Task.{Task}
use Rattle.htn_task.specs.declared.formula.Formula.{Formula, Literal, the_lemmas}
use Rattle.htn_task.specs.Formulas.{formula_of, formulas_view}
use Rattle.htn_ground.specs.declared.fixed.FixedLiteral.{FixedLiteral}
use Rattle.htn_ground.specs.Fixed.{IsFixed, schema_of}

-- a literal as the definitions have it
view-Literal : (p : Bool) (a : AtomSchema) → formula_of (Literal p a) ≡ model.literal p a
view-Literal p a = search (rules, the_lemmas)

-- a formula of the list stands in the definitions' list
contains_view : (items : List Formula) (k : ℕ) (f : Formula) → k < length items → f ≡ get_or items k f → Contains (formulas_view items) (formula_of f)
contains_view [] k f below is = absurd (omega arith)
contains_view (y ∷ items) zero f below is = (0, omega arith, ap formula_of (sym is))
contains_view (y ∷ items) (suc k) f below is =
    let later = contains_view items k f (omega arith) is in
    (suc later.0, (let h : later.0 < length (formulas_view items) = later.1 in omega arith), later.2)

-- a literal of the precondition whose predicate no effect names is a fixed one
pub fixed_at : (t : Task) (pre : List model.Formula) (items : List Formula) (k : ℕ) (f : Formula) (p : Bool) (a : AtomSchema) (l : FixedLiteral)
    → k < length items → f ≡ get_or items k f → formulas_view items ≡ pre → f ≡ Literal p a → l.is_positive ≡ p → schema_of l ≡ a → false ≡ is_changed t a.predicate → IsFixed t pre l
fixed_at t pre items k f p a l below is seen literal sign atom unchanged =
    let same : formula_of f ≡ model.literal l.is_positive (schema_of l) =
    ap formula_of literal ∙ view-Literal p a ∙ (λ i. model.literal (sym sign i) (sym atom i)) in
    let here : Contains (formulas_view items) (model.literal l.is_positive (schema_of l)) = subst (λ (x : model.Formula). Contains (formulas_view items) x) same (contains_view items k f below is) in
    record {
      stands = subst (λ (fs : List model.Formula). Contains fs (model.literal l.is_positive (schema_of l))) seen here;
      unchanged = ap (λ (x : AtomSchema). is_changed t x.predicate) atom ∙ sym unchanged;
    }
