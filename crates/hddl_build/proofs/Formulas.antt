-- A `forall` and its body.
use Rattle.std.proofs.Common.{◌≡◌, ◌++◌, ◌∙◌, sym, [], ◌∷◌, Global, List, Vec, ap, map, rules, ℕ, ◌+◌, ◌≤◌, ◌&&◌, Bool, true, false, nat_le, length, refl, get_or, ◌<◌}
use Rattle.std.specs.List.{list_all}
use Rattle.std.proofs.lemmas.List.{map-append}
use Rattle.std.proofs.lemmas.List.Recursion.{and_at}
use borrow.Author.Tests.{leb-true}
use Rattle.htn_model.specs.Schema as model
use Rattle.htn_task.specs.declared.formula.Formula.{Formula, ForAll, the_lemmas}
use Rattle.htn_task.specs.Formulas as task
use Rattle.hddl_words.specs.declared.term.VariableGroup.{VariableGroup}
use Rattle.hddl_words.specs.declared.condition.Condition.{Condition, fold-Condition, Forall}
use Rattle.hddl_words.specs.declared.condition.Condition as condition
use Rattle.hddl_words.specs.declared.condition.Condition.TheOpen.{Condition-F}
use Rattle.hddl_meaning.specs.Mentions.{Text}
use Rattle.hddl_meaning.specs.Building.{Vocabulary, types_of, variables_of, formula_of, formula_step}
use Rattle.hddl_build.specs.InForce.{fits, fits_step, most_in_force}
use Rattle.hddl_build.proofs.Groups.{map-map}

-- a `forall` as the model has it: its types, and its body as a list
pub view-ForAll : (types : Vec ℕ Global) (body : Vec Formula Global) → task.formula_of (ForAll types body) ≡ model.for_all types.items (model.formulas_of (task.formulas_view body.items))
view-ForAll types body = search (rules, the_lemmas)

-- the formulas, with one more
pub view_more : (old : List Formula) (formula : Formula) → task.formulas_view (old ++ formula ∷ []) ≡ task.formulas_view old ++ task.formula_of formula ∷ []
view_more old formula = map-append task.formula_of old (formula ∷ [])

-- what a `forall` means is told by what its parts mean
step-Forall : (v : Vocabulary) (groups : List VariableGroup) (body : List Condition)
    → formula_of v (Forall groups body) ≡ formula_step v (Condition-F.Forall groups (map (formula_of v) body))
step-Forall v groups body = search (rules, condition.the_lemmas)

-- a `forall` means one over its types whose body has its variables after those in force
pub formula-Forall : (v : Vocabulary) (groups : List VariableGroup) (body : List Condition) (variables : List Text)
    → formula_of v (Forall groups body) variables
    ≡ model.for_all (types_of v groups) (model.formulas_of (map (λ c. formula_of v c (variables ++ variables_of groups)) body))
formula-Forall v groups body variables =
    ap (λ (f : List Text → model.Formula). f variables) (step-Forall v groups body)
    ∙ ap (λ (l : List model.Formula). model.for_all (types_of v groups) (model.formulas_of l)) (map-map (λ f. f (variables ++ variables_of groups)) (formula_of v) body)

-- ## Variables in force

-- whether a `forall` fits is told by whether its parts do
step-fits : (groups : List VariableGroup) (body : List Condition)
    → fold-Condition (ℕ → Bool) fits_step (Forall groups body) ≡ fits_step (Condition-F.Forall groups (map (fold-Condition (ℕ → Bool) fits_step) body))
step-fits groups body = search (rules, condition.the_lemmas)

-- all parts of a body fit exactly where each does
all_of_body : (n : ℕ) (body : List Condition) → list_all (λ part. part n) (map (fold-Condition (ℕ → Bool) fits_step) body) ≡ list_all (fits n) body
all_of_body n [] = refl
all_of_body n (c ∷ body) = ap (λ b. fits n c && b) (all_of_body n body)

-- where two tests hold together, each does
both : (a b : Bool) → (a && b) ≡ true → (a ≡ true) × (b ≡ true)
both true b h = (refl, h)
both false b h = absurd cc

-- what a `forall` that fits says of its variables and of its body
parts_fit : (n : ℕ) (groups : List VariableGroup) (body : List Condition) → fits n (Forall groups body) ≡ true
    → (nat_le (n + length (variables_of groups)) most_in_force ≡ true) × (list_all (fits (n + length (variables_of groups))) body ≡ true)
parts_fit n groups body h =
    let m = n + length (variables_of groups) in
    let halves : (nat_le m most_in_force ≡ true) × (list_all (λ part. part m) (map (fold-Condition (ℕ → Bool) fits_step) body) ≡ true) =
    both (nat_le m most_in_force) (list_all (λ part. part m) (map (fold-Condition (ℕ → Bool) fits_step) body)) (ap (λ (f : ℕ → Bool). f n) (sym (step-fits groups body)) ∙ h) in
    (halves.0, sym (all_of_body m body) ∙ halves.1)

-- the variables of a `forall` that fits are few enough with those around it
pub variables_fit : (n : ℕ) (groups : List VariableGroup) (body : List Condition) → fits n (Forall groups body) ≡ true → n + length (variables_of groups) ≤ most_in_force
variables_fit n groups body h = leb-true (n + length (variables_of groups)) most_in_force (parts_fit n groups body h).0

-- each part of a `forall` that fits does, with its variables in force
pub part_fits : (n : ℕ) (groups : List VariableGroup) (body : List Condition) (k : ℕ) (c : Condition) → fits n (Forall groups body) ≡ true → k < length body
    → c ≡ get_or body k c → fits (n + length (variables_of groups)) c ≡ true
part_fits n groups body k c h below at =
    let m = n + length (variables_of groups) in
    ap (fits m) at ∙ and_at (list_all (fits m)) (fits m) refl (λ x xs. refl) body k c below (parts_fit n groups body h).1
