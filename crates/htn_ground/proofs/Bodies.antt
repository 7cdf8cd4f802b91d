-- What the body of a `forall` gives.
use Rattle.std.proofs.Common.{◌≡◌, ◌∙◌, ◌++◌, ◌<◌, ◌≤◌, ◌∷◌, ◌||◌, Global, List, Vec, [], ap, arith, drop, false, get_or, length, refl, rules, suc, sym, true, zero, ℕ}
use Rattle.std.specs.List.{flat_map, list_any}
use Rattle.std.proofs.lemmas.List.{drop_all}
use Rattle.htn_model.specs.Schema as model
use Rattle.htn_model.specs.Schema.{Term}
use Rattle.htn_model.specs.Task.{Task}
use Rattle.htn_model.specs.Instances.{formula_places, formulas_places, literals_in, literals_in_all}
use Rattle.htn_task.specs.declared.formula.Formula.{Formula, ForAll, the_lemmas}
use Rattle.htn_task.specs.Formulas.{formula_of, formulas_view}
use Rattle.htn_ground.specs.Shown.{stands_in, stands_in_any}

-- a `forall` as the definitions have it
pub view-ForAll : (types : Vec ℕ Global) (body : Vec Formula Global) → formula_of (ForAll types body) ≡ model.for_all types.items (model.formulas_of (formulas_view body.items))
view-ForAll types body = search (rules, the_lemmas)

-- the places of a body are those of its formulas
pub places-body : (t : Task) (fs : List model.Formula) → formulas_places t (model.formulas_of fs) ≡ flat_map (formula_places t) fs
places-body t [] = refl
places-body t (f ∷ fs) = ap (λ l. formula_places t f ++ l) (places-body t fs)

-- the literals of a body are those of its formulas
literals-body : (t : Task) (values : List ℕ) (fs : List model.Formula) → literals_in_all t values (model.formulas_of fs) ≡ flat_map (literals_in t values) fs
literals-body t values [] = refl
literals-body t values (f ∷ fs) = ap (λ l. literals_in t values f ++ l) (literals-body t values fs)

-- the literals of all substitutions
pub literals-bodies : (t : Task) (values : List ℕ) (fs : List model.Formula) (choices : List (List ℕ))
    → flat_map (λ more. literals_in_all t (values ++ more) (model.formulas_of fs)) choices ≡ flat_map (λ more. flat_map (literals_in t (values ++ more)) fs) choices
literals-bodies t values fs [] = refl
literals-bodies t values fs (choice ∷ choices) = λ i. literals-body t (values ++ choice) fs i ++ literals-bodies t values fs choices i

-- ## Parameters in a formula

-- a parameter stands in a body where it does in a formula of it
pub stands-body : (place : ℕ) (fs : List model.Formula) → stands_in_any place (model.formulas_of fs) ≡ list_any (stands_in place) fs
stands-body place [] = refl
stands-body place (f ∷ fs) = ap (λ b. stands_in place f || b) (stands-body place fs)

-- a parameter that stands in a formula stands in the list from there on
pub stands_here : (place : ℕ) (items : List Formula) (i : ℕ) (f : Formula) → i < length items → f ≡ get_or items i f → true ≡ stands_in place (formula_of f)
    → true ≡ list_any (stands_in place) (formulas_view (drop i items))
stands_here place [] i f below is stands = absurd (omega arith)
stands_here place (y ∷ items) zero f below is stands = ap (λ b. b || list_any (stands_in place) (formulas_view items)) (stands ∙ ap (λ g. stands_in place (formula_of g)) is)
stands_here place (y ∷ items) (suc i) f below is stands = stands_here place items i f (omega arith) is stands

-- past the body it stands nowhere
pub stands_nowhere : (place : ℕ) (items : List Formula) (i : ℕ) → length items ≤ i → false ≡ list_any (stands_in place) (formulas_view (drop i items))
stands_nowhere place items i past = ap (λ l. list_any (stands_in place) (formulas_view l)) (sym (drop_all i items past))
