-- The formulas of a condition are well typed where its atoms, its equalities and its types are.
use Rattle.std.proofs.Common.{◌≡◌, ◌+◌, Bool, true, false, List, [], ◌∷◌, ◌++◌, length, map, sym, refl, ap, ◌∙◌, subst, length-append}
use Rattle.std.specs.List.{flat_map}
use Rattle.std.proofs.lemmas.List.{length-map, map-append}
use Rattle.htn_model.specs.Schema as model
use Rattle.htn_model.specs.Task.{AreFormulas, AreTypes, IsAtomSchema, IsFormula, IsTerm, Task}
use Rattle.hddl_words.specs.declared.term.VariableGroup.{VariableGroup}
use Rattle.hddl_words.specs.declared.condition.Condition.{Condition, fold-Condition, map-Condition, roll-Condition}
use Rattle.hddl_words.specs.declared.condition.Condition.TheOpen.{Condition-F}
use Rattle.hddl_words.specs.declared.condition.Condition.TheFolds.{fold-roll-Condition, ind-Condition}
use Rattle.hddl_meaning.specs.Mentions.{IsIn, Text, Typed, mentions_of, texts, typed_variables}
use Rattle.hddl_meaning.specs.Uses.{TermUse, Use, Variable, atoms_step, parameters_of, quantified_of, sides_step}
use Rattle.hddl_meaning.specs.Building.{Vocabulary, atom_of, formula_of, formula_step, term_of, types_of, variables_of}
use Rattle.hddl_meaning.proofs.Listed.{at_head, at_tail, in_left, in_right}

-- ## The variables in force as texts

-- the texts of variables in force
abbrev pub names_of : List Variable → List Text
names_of variables = map (λ v. v.typed.mention.text) variables

-- the texts of typed names in force are those of their mentions
typed_names_of : (is_quantified : Bool) (ts : List Typed) → names_of (map (λ t. record { typed = t; is_quantified = is_quantified }) ts) ≡ texts (mentions_of ts)
typed_names_of is_quantified [] = refl
typed_names_of is_quantified (t ∷ ts) = ap (λ xs. t.mention.text ∷ xs) (typed_names_of is_quantified ts)

-- the texts of parameters in force are those of the typed list
pub names_of_parameters : (groups : List VariableGroup) → names_of (parameters_of groups) ≡ variables_of groups
names_of_parameters groups = typed_names_of false (typed_variables groups)

-- the variables of a `forall` come after those around it
pub names_with : (variables : List Variable) (groups : List VariableGroup) → names_of (variables ++ quantified_of groups) ≡ names_of variables ++ variables_of groups
names_with variables groups =
    map-append (λ v. v.typed.mention.text) variables (quantified_of groups) ∙ ap (λ xs. names_of variables ++ xs) (typed_names_of true (typed_variables groups))

-- a typed list has as many types as variables
pub length-types : (v : Vocabulary) (groups : List VariableGroup) → length (types_of v groups) ≡ length (typed_variables groups)
length-types v groups = length-map (typed_variables groups) _

-- with the variables of a `forall` there are so many more in force
pub count_with : (v : Vocabulary) (variables : List Variable) (groups : List VariableGroup) → length (variables ++ quantified_of groups) ≡ length variables + length (types_of v groups)
count_with v variables groups =
    length-append variables (quantified_of groups)
    ∙ ap (λ n. length variables + n) (length-map (typed_variables groups) (λ t. record { typed = t; is_quantified = true }) ∙ sym (length-types v groups))

-- ## Formulas

-- the atoms and the sides of equalities in one part of a condition
abbrev pub atoms_of : Condition → List Variable → List Use
atoms_of = fold-Condition (List Variable → List Use) atoms_step

-- each side of an equality in a condition
abbrev pub sides_of : Condition → List Variable → List TermUse
sides_of = fold-Condition (List Variable → List TermUse) sides_step

module _ (t : Task) (v : Vocabulary) (KnowsAtom : Use → Type 0) (KnowsTerm : TermUse → Type 0)
    (atom_typed : (u : Use) → KnowsAtom u → IsAtomSchema t (length u.variables) (atom_of v (names_of u.variables) u.atom))
    (term_typed : (x : TermUse) → KnowsTerm x → IsTerm t (length x.variables) (term_of v (names_of x.variables) x.term))
    (types_typed : (groups : List VariableGroup) → AreTypes t (types_of v groups)) where
  -- a condition whose atoms, sides and types are known has a well typed formula
  abbrev IsTyped : Condition → Type 0
  IsTyped c =
      (variables : List Variable) → ((u : Use) → IsIn u (atoms_of c variables) → KnowsAtom u) → ((x : TermUse) → IsIn x (sides_of c variables) → KnowsTerm x)
      → IsFormula t (length variables) (formula_of v c (names_of variables))

  -- a condition that is so
  abbrev Part : Type 0
  Part = (c : Condition) × IsTyped c

  -- the conditions of such parts
  abbrev conditions_in : List Part → List Condition
  conditions_in parts = map (λ e. e.0) parts

  -- the body of a `forall` is well typed if its parts are
  body_typed : (parts : List Part) (variables : List Variable)
      → ((u : Use) → IsIn u (flat_map (λ part. part variables) (map atoms_of (conditions_in parts))) → KnowsAtom u)
      → ((x : TermUse) → IsIn x (flat_map (λ part. part variables) (map sides_of (conditions_in parts))) → KnowsTerm x)
      → AreFormulas t (length variables) (model.formulas_of (map (λ f. f (names_of variables)) (map (formula_of v) (conditions_in parts))))
  body_typed [] variables atoms terms = tt
  body_typed (part ∷ parts) variables atoms terms =
      let later_atoms = flat_map (λ part. part variables) (map atoms_of (conditions_in parts)) in
      let later_sides = flat_map (λ part. part variables) (map sides_of (conditions_in parts)) in (
        part.1 variables (λ u h. atoms u (in_left u (atoms_of part.0 variables) later_atoms h)) (λ x h. terms x (in_left x (sides_of part.0 variables) later_sides h)),
        body_typed parts variables (λ u h. atoms u (in_right u (atoms_of part.0 variables) later_atoms h)) (λ x h. terms x (in_right x (sides_of part.0 variables) later_sides h)),
      )

  -- what the three functions give at one layer
  formula_at : (x : Condition-F Condition) (names : List Text) → formula_of v (roll-Condition x) names ≡ formula_step v (map-Condition Condition (List Text → model.Formula) (formula_of v) x) names
  formula_at x names = ap (λ f. f names) (fold-roll-Condition (List Text → model.Formula) (formula_step v) x)

  -- the atoms of a condition are told by its outermost layer
  atoms_at : (x : Condition-F Condition) (variables : List Variable) → atoms_of (roll-Condition x) variables ≡ atoms_step (map-Condition Condition (List Variable → List Use) atoms_of x) variables
  atoms_at x variables = ap (λ f. f variables) (fold-roll-Condition (List Variable → List Use) atoms_step x)

  -- the sides of a condition are told by its outermost layer
  sides_at : (x : Condition-F Condition) (variables : List Variable)
      → sides_of (roll-Condition x) variables ≡ sides_step (map-Condition Condition (List Variable → List TermUse) sides_of x) variables
  sides_at x variables = ap (λ f. f variables) (fold-roll-Condition (List Variable → List TermUse) sides_step x)

  -- a condition whose parts are well typed is so
  layer_typed : (y : Condition-F Part) → IsTyped (roll-Condition (map-Condition Part Condition (λ e. e.0) y))
  layer_typed (Condition-F.Literal l) variables atoms terms =
      let here : Use = record { variables = variables; atom = l.atom } in
      subst (IsFormula t (length variables)) (sym (formula_at (Condition-F.Literal l) (names_of variables)))
      (atom_typed here (atoms here (subst (IsIn here) (sym (atoms_at (Condition-F.Literal l) variables)) (at_head here []))))
  layer_typed (Condition-F.Equality e) variables atoms terms =
      let left : TermUse = record { variables = variables; term = e.left } in
      let right : TermUse = record { variables = variables; term = e.right } in
      subst (IsFormula t (length variables)) (sym (formula_at (Condition-F.Equality e) (names_of variables))) (
        term_typed left (terms left (subst (IsIn left) (sym (sides_at (Condition-F.Equality e) variables)) (at_head left (right ∷ [])))),
        term_typed right (terms right (subst (IsIn right) (sym (sides_at (Condition-F.Equality e) variables)) (at_tail left right (right ∷ []) (at_head right [])))),
      )
  layer_typed (Condition-F.Forall groups body) variables atoms terms =
      let inner : List Variable = variables ++ quantified_of groups in
      let x : Condition-F Condition = Condition-F.Forall groups (conditions_in body) in
      subst (IsFormula t (length variables)) (sym (formula_at x (names_of variables))) (
        types_typed groups,
        subst (λ n. AreFormulas t n (model.formulas_of (map (λ f. f (names_of variables ++ variables_of groups)) (map (formula_of v) (conditions_in body))))) (count_with v variables groups)
            (subst (λ names. AreFormulas t (length inner) (model.formulas_of (map (λ f. f names) (map (formula_of v) (conditions_in body))))) (names_with variables groups)
            (body_typed body inner
            (λ u h. atoms u (subst (IsIn u) (sym (atoms_at x variables)) h))
            (λ z h. terms z (subst (IsIn z) (sym (sides_at x variables)) h)))),
      )

  -- each condition whose atoms, sides and types are known has a well typed formula
  pub formula_typed : (c : Condition) → IsTyped c
  formula_typed = ind-Condition IsTyped (λ x y is. subst (λ z. IsTyped (roll-Condition z)) is (layer_typed y))
