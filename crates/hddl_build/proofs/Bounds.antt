-- In a pair that fits together no more variables are in force at once than a place can number.
use Rattle.std.proofs.Common.{◌≡◌, ℕ, ◌+◌, ◌≤◌, ◌&&◌, Bool, true, false, List, [], ◌∷◌, ◌++◌, length, map, refl, sym, ap, ap₂, ◌∙◌, subst, arith, length-append, get_or}
use Rattle.std.specs.List.{All, flat_map, list_all}
use Rattle.std.proofs.lemmas.List.{length-map}
use Rattle.std.proofs.lemmas.List.Elements.{All-contains_itself}
use borrow.Author.Tests.{le-leb}
use Rattle.hddl_words.specs.declared.term.VariableGroup.{VariableGroup}
use Rattle.hddl_words.specs.declared.condition.Condition.{Condition, fold-Condition, map-Condition, roll-Condition}
use Rattle.hddl_words.specs.declared.condition.Condition.TheOpen.{Condition-F}
use Rattle.hddl_words.specs.declared.condition.Condition.TheFolds.{fold-roll-Condition, ind-Condition}
use Rattle.hddl_words.specs.declared.domain.DomainText.{DomainText}
use Rattle.hddl_words.specs.declared.problem.ProblemText.{ProblemText}
use Rattle.hddl_meaning.specs.declared.fault.Source.TheVariants as source
use Rattle.hddl_meaning.specs.Mentions.{IsIn, mentions_of, typed_variables}
use Rattle.hddl_meaning.specs.Uses.{Quantifier, Variable, parameters_of, quantified_of, quantifiers_in, quantifiers_step, schema_of_method, schema_of_action, schema_of_network, schema_of_states}
use Rattle.hddl_meaning.specs.Building.{variables_of}
use Rattle.hddl_meaning.specs.Items.{IsWellTypedPair}
use Rattle.hddl_meaning.proofs.Listed.{at_head, at_tail, in_left, in_right}
use Rattle.hddl_meaning.proofs.Limits.{action_parameters_limit, action_schema, method_parameters_limit, method_schema, network_parameters_limit, variables_limit}
use Rattle.hddl_build.specs.InForce.{IsBounded, all_fit, fits, fits_step, most_in_force}

-- a typed list has as many texts as variables
count_of : (groups : List VariableGroup) → length (variables_of groups) ≡ length (typed_variables groups)
count_of groups = length-map (mentions_of (typed_variables groups)) (λ m. m.text) ∙ length-map (typed_variables groups) (λ t. t.mention)

-- with the variables of a `forall` there are so many more in force
count_with : (variables : List Variable) (groups : List VariableGroup) → length (variables ++ quantified_of groups) ≡ length variables + length (variables_of groups)
count_with variables groups =
    length-append variables (quantified_of groups)
    ∙ ap (λ n. length variables + n) (length-map (typed_variables groups) (λ t. record { typed = t; is_quantified = true }) ∙ sym (count_of groups))

-- each `forall` in a condition
abbrev quantifiers_of : Condition → List Variable → List Quantifier
quantifiers_of = fold-Condition (List Variable → List Quantifier) quantifiers_step

-- whether a condition fits where so many are in force
abbrev fold_fits : Condition → ℕ → Bool
fold_fits = fold-Condition (ℕ → Bool) fits_step

-- at a `forall` no more than 65,535 variables are in force
abbrev IsSmall : Quantifier → Type 0
IsSmall q = length q.around + length (typed_variables q.own) ≤ 65535

-- a condition each of whose `forall`s is small fits
abbrev Fits : Condition → Type 0
Fits c = (variables : List Variable) → ((q : Quantifier) → IsIn q (quantifiers_of c variables) → IsSmall q) → fits (length variables) c ≡ true

-- a condition that fits so
abbrev Part : Type 0
Part = (c : Condition) × Fits c

-- the conditions of such parts
abbrev conditions_in : List Part → List Condition
conditions_in parts = map (λ e. e.0) parts

-- the body of a `forall` fits if its parts do
body_fits : (parts : List Part) (variables : List Variable)
    → ((q : Quantifier) → IsIn q (flat_map (λ part. part variables) (map quantifiers_of (conditions_in parts))) → IsSmall q)
    → list_all (λ part. part (length variables)) (map fold_fits (conditions_in parts)) ≡ true
body_fits [] variables small = refl
body_fits (part ∷ parts) variables small =
    let later = flat_map (λ part. part variables) (map quantifiers_of (conditions_in parts)) in
    ap₂ (λ x y. x && y) (part.1 variables (λ q h. small q (in_left q (quantifiers_of part.0 variables) later h)))
    (body_fits parts variables (λ q h. small q (in_right q (quantifiers_of part.0 variables) later h)))

-- whether a condition fits is told by its outermost layer
fits_at : (x : Condition-F Condition) (n : ℕ) → fits n (roll-Condition x) ≡ fits_step (map-Condition Condition (ℕ → Bool) fold_fits x) n
fits_at x n = ap (λ f. f n) (fold-roll-Condition (ℕ → Bool) fits_step x)

-- each `forall` of a condition is told by its outermost layer
quantifiers_at : (x : Condition-F Condition) (variables : List Variable)
    → quantifiers_of (roll-Condition x) variables ≡ quantifiers_step (map-Condition Condition (List Variable → List Quantifier) quantifiers_of x) variables
quantifiers_at x variables = ap (λ f. f variables) (fold-roll-Condition (List Variable → List Quantifier) quantifiers_step x)

-- a condition whose parts fit fits
layer_fits : (y : Condition-F Part) → Fits (roll-Condition (map-Condition Part Condition (λ e. e.0) y))
layer_fits (Condition-F.Literal l) variables small = fits_at (Condition-F.Literal l) (length variables)
layer_fits (Condition-F.Equality e) variables small = fits_at (Condition-F.Equality e) (length variables)
layer_fits (Condition-F.Forall groups body) variables small =
    let inner : List Variable = variables ++ quantified_of groups in
    let x : Condition-F Condition = Condition-F.Forall groups (conditions_in body) in
    let here : Quantifier = record { around = variables; own = groups } in
    let under = flat_map (λ part. part inner) (map quantifiers_of (conditions_in body)) in
    let bound : length variables + length (typed_variables groups) ≤ 65535 = small here (subst (IsIn here) (sym (quantifiers_at x variables)) (at_head here under)) in
    let few : length variables + length (variables_of groups) ≤ 65536 = omega (arith, count_of groups) in
    let rest : list_all (λ part. part (length inner)) (map fold_fits (conditions_in body)) ≡ true =
    body_fits body inner (λ q h. small q (subst (IsIn q) (sym (quantifiers_at x variables)) (at_tail here q under h))) in
    fits_at x (length variables)
    ∙ ap₂ (λ p q. p && q) (le-leb (length variables + length (variables_of groups)) 65536 few)
    (ap (λ n. list_all (λ part. part n) (map fold_fits (conditions_in body))) (sym (count_with variables groups)) ∙ rest)

-- each condition fits where its `forall`s are small
condition_fits : (c : Condition) → Fits c
condition_fits = ind-Condition Fits (λ x y is. subst (λ z. Fits (roll-Condition z)) is (layer_fits y))

-- conditions fit where their `forall`s are small
conditions_fit : (conditions : List Condition) (variables : List Variable) → ((q : Quantifier) → IsIn q (quantifiers_in variables conditions) → IsSmall q)
    → all_fit (length variables) conditions ≡ true
conditions_fit [] variables small = refl
conditions_fit (c ∷ conditions) variables small =
    ap₂ (λ x y. x && y) (condition_fits c variables (λ q h. small q (in_left q (quantifiers_of c variables) (quantifiers_in variables conditions) h)))
    (conditions_fit conditions variables (λ q h. small q (in_right q (quantifiers_of c variables) (quantifiers_in variables conditions) h)))

-- there are as many parameters in force as a typed list has
count_of_parameters : (groups : List VariableGroup) → length (parameters_of groups) ≡ length (variables_of groups)
count_of_parameters groups = length-map (typed_variables groups) (λ t. record { typed = t; is_quantified = false }) ∙ sym (count_of groups)

-- conditions under at most 32 parameters, with small `forall`s, are bounded
bounded : (groups : List VariableGroup) (conditions : List Condition) → length (typed_variables groups) ≤ 32
    → ((q : Quantifier) → IsIn q (quantifiers_in (parameters_of groups) conditions) → IsSmall q) → IsBounded groups conditions
bounded groups conditions few small = record {
  parameters = omega (arith, count_of groups);
  inside = subst (λ n. all_fit n conditions ≡ true) (count_of_parameters groups) (conditions_fit conditions (parameters_of groups) small);
}

module _ (d : DomainText) (p : ProblemText) (fits : IsWellTypedPair d p) where
  -- the methods of a pair that fits together are bounded
  pub methods_bounded : All (λ m. IsBounded m.parameters m.precondition) d.methods
  methods_bounded k e h =
      let m = get_or d.methods k e in
      let there : IsIn m d.methods = All-contains_itself d.methods k e h in
      bounded m.parameters m.precondition (method_parameters_limit d p fits m there)
      (λ q in_it. variables_limit d p fits source.Domain (schema_of_method m) q (method_schema d p fits m there) in_it)

  -- the actions of a pair that fits together are bounded
  pub actions_bounded : All (λ a. IsBounded a.parameters a.precondition) d.actions
  actions_bounded k e h =
      let a = get_or d.actions k e in
      let there : IsIn a d.actions = All-contains_itself d.actions k e h in
      bounded a.parameters a.precondition (action_parameters_limit d p fits a there)
      (λ q in_it. variables_limit d p fits source.Domain (schema_of_action a) q (action_schema d p fits a there) in_it)

  -- the parameters of the initial network are few enough
  pub initial_bounded : length (variables_of p.htn.parameters) ≤ most_in_force
  initial_bounded = omega (arith, count_of p.htn.parameters, network_parameters_limit d p fits)

  -- the goal of a pair that fits together fits
  pub goal_bounded : all_fit 0 p.goal ≡ true
  goal_bounded =
      conditions_fit p.goal []
      (λ q in_it. variables_limit d p fits source.Problem (schema_of_states p) q (at_tail (schema_of_network p) (schema_of_states p) (schema_of_states p ∷ []) (at_head (schema_of_states p) [])) in_it)
