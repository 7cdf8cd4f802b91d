-- The atoms of a precondition that have to be true.
use Rattle.std.proofs.Common.{◌≡◌, ◌∙◌, ◌<◌, Bool, List, ap, get_or, length, rules, subst, true, ℕ}
use Rattle.htn_model.specs.PlanFile.{IsIn}
use Rattle.htn_model.specs.Schema as model
use Rattle.htn_model.specs.Schema.{AtomSchema}
use Rattle.htn_task.specs.declared.formula.Formula.{Formula, Literal, the_lemmas}
use Rattle.htn_task.specs.Formulas.{formula_of, formulas_view}
use Rattle.plan_lines.proofs.Gathering.{in_mapped}

-- a literal as the definitions have it
view-Literal : (p : Bool) (a : AtomSchema) → formula_of (Literal p a) ≡ model.literal p a
view-Literal p a = search (rules, the_lemmas)

-- a plain literal of the list is one of the precondition
pub positive_at : (pre : List model.Formula) (items : List Formula) (k : ℕ) (f : Formula) (a : AtomSchema) → k < length items → f ≡ get_or items k f → formulas_view items ≡ pre → f ≡ Literal true a
    → IsIn (model.literal true a) pre
positive_at pre items k f a below is seen literal =
    subst (λ (fs : List model.Formula). IsIn (model.literal true a) fs) seen
    (subst (λ (x : model.Formula). IsIn x (formulas_view items)) (ap formula_of literal ∙ view-Literal true a) (in_mapped formula_of items k f below is))
