-- What the body of a `forall` uses, and what conditions use one by one.
use Rattle.std.proofs.Common.{◌≡◌, List, [], ◌∷◌, ◌++◌, map, inl, inr, refl, sym, subst, ap, ◌∙◌, rules}
use Rattle.std.specs.List.{flat_map}
use Rattle.std.proofs.lemmas.Grind.{flat_map-append}
use Rattle.std.proofs.lemmas.List.Folds.{flat_map-map}
use Rattle.std.proofs.lemmas.List.{map-append}
use Rattle.std.proofs.lemmas.List.Elements.{Contains-append_cases}
use Rattle.hddl_words.specs.declared.condition.EqualityText.{EqualityText}
use Rattle.hddl_words.specs.declared.condition.LiteralText.{LiteralText}
use Rattle.hddl_words.specs.declared.term.VariableGroup.{VariableGroup}
use Rattle.hddl_words.specs.declared.condition.Condition.{Condition, fold-Condition, Literal, Equality, Forall, the_lemmas}
use Rattle.hddl_words.specs.declared.condition.Condition.TheOpen.{Condition-F}
use Rattle.hddl_meaning.specs.Mentions.{IsIn}
use Rattle.hddl_meaning.specs.Uses.{Variable, Use, TermUse, Quantifier, quantified_of, quantifiers_in, atoms_in, sides_in, sides, quantifiers_step, atoms_step, sides_step}
use Rattle.hddl_meaning.proofs.Listed.{in_left, in_right, in_flat_map}
use Rattle.hddl_uses.specs.Parts.{Part, Atom, Side, quantifier_parts, conditions_parts}
use Rattle.hddl_uses.specs.Conditions.{quantifiers_of, atoms_of, sides_of, quantifier_parts_of, atom_parts_of, side_parts_of, condition_parts}
use Rattle.hddl_scope.proofs.Finding.{flat_mapped}

-- what is told of a `forall` is told of its variables and of what is told of its parts
pub fold-Forall : (X : Type 0) (step : Condition-F X → X) (gs : List VariableGroup) (body : List Condition)
    → fold-Condition X step (Forall gs body) ≡ step (Condition-F.Forall gs (map (fold-Condition X step) body))
fold-Forall X step gs body = search (rules, the_lemmas)

-- joined lists are joined again list by list
pub flat_flat : {X Y Z : Type 0} (h : Y → List Z) (g : X → List Y) (xs : List X) → flat_map h (flat_map g xs) ≡ flat_map (λ x. flat_map h (g x)) xs
flat_flat h g [] = refl
flat_flat h g (x ∷ xs) = flat_map-append h (g x) (flat_map g xs) ∙ ap (λ l. flat_map h (g x) ++ l) (flat_flat h g xs)

-- joined lists are mapped list by list
pub map_flat : {X Y Z : Type 0} (h : Y → Z) (g : X → List Y) (xs : List X) → map h (flat_map g xs) ≡ flat_map (λ x. map h (g x)) xs
map_flat h g [] = refl
map_flat h g (x ∷ xs) = map-append h (g x) (flat_map g xs) ∙ ap (λ l. map h (g x) ++ l) (map_flat h g xs)

-- what the parts of a body give under its variables
body : {X : Type 0} (step : Condition-F (List Variable → List X) → List Variable → List X) (variables : List Variable) (cs : List Condition)
    → flat_map (λ part. part variables) (map (fold-Condition (List Variable → List X) step) cs) ≡ flat_map (λ c. fold-Condition (List Variable → List X) step c variables) cs
body {X} step variables cs = flat_map-map (λ part. part variables) (fold-Condition (List Variable → List X) step) cs

module _ (w : List Variable) (gs : List VariableGroup) (cs : List Condition) where
  -- the variables in force in the body of a `forall`
  abbrev pub within : List Variable
  within = w ++ quantified_of gs

  -- the `forall`s in a `forall` are itself and those of its body
  pub quantifiers-Forall : quantifier_parts_of w (Forall gs cs) ≡ quantifier_parts (record { around = w; own = gs }) ++ flat_map (quantifier_parts_of within) cs
  quantifiers-Forall =
      ap (λ (f : List Variable → List Quantifier). flat_map quantifier_parts (f w)) (fold-Forall (List Variable → List Quantifier) quantifiers_step gs cs)
      ∙ ap (λ l. quantifier_parts (record { around = w; own = gs }) ++ l)
      (ap (flat_map quantifier_parts) (body quantifiers_step within cs) ∙ flat_flat quantifier_parts (quantifiers_of within) cs)

  -- the atoms in a `forall` are those of its body
  pub atoms-Forall : atom_parts_of w (Forall gs cs) ≡ flat_map (atom_parts_of within) cs
  atoms-Forall =
      ap (λ (f : List Variable → List Use). map Atom (f w)) (fold-Forall (List Variable → List Use) atoms_step gs cs)
      ∙ ap (map Atom) (body atoms_step within cs) ∙ map_flat Atom (atoms_of within) cs

  -- the sides of equalities in a `forall` are those of its body
  pub sides-Forall : side_parts_of w (Forall gs cs) ≡ flat_map (side_parts_of within) cs
  sides-Forall =
      ap (λ (f : List Variable → List TermUse). map Side (f w)) (fold-Forall (List Variable → List TermUse) sides_step gs cs)
      ∙ ap (map Side) (body sides_step within cs) ∙ map_flat Side (sides_of within) cs

module _ (w : List Variable) (cs : List Condition) where
  -- the `forall`s of conditions are those of each
  pub quantifiers-each : flat_map (quantifier_parts_of w) cs ≡ flat_map quantifier_parts (quantifiers_in w cs)
  quantifiers-each = sym (flat_flat quantifier_parts (quantifiers_of w) cs)

  -- the atoms of conditions are those of each
  pub atoms-each : flat_map (atom_parts_of w) cs ≡ map Atom (atoms_in w cs)
  atoms-each = sym (map_flat Atom (atoms_of w) cs)

  -- the sides of equalities of conditions are those of each
  pub sides-each : flat_map (side_parts_of w) cs ≡ map Side (sides_in w cs)
  sides-each = sym (map_flat Side (sides_of w) cs)

-- ## One condition

-- what is told of a literal is told by its step
fold-Literal : (X : Type 0) (step : Condition-F X → X) (l : LiteralText) → fold-Condition X step (Literal l) ≡ step (Condition-F.Literal l)
fold-Literal X step l = search (rules, the_lemmas)

-- what is told of an equality is told by its step
fold-Equality : (X : Type 0) (step : Condition-F X → X) (e : EqualityText) → fold-Condition X step (Equality e) ≡ step (Condition-F.Equality e)
fold-Equality X step e = search (rules, the_lemmas)

-- of a literal its atom has to fit
pub literal_parts : (w : List Variable) (l : LiteralText) → condition_parts w (Literal l) ≡ Atom (record { variables = w; atom = l.atom }) ∷ []
literal_parts w l i =
    map Atom (fold-Literal (List Variable → List Use) atoms_step l i w)
    ++ (flat_map quantifier_parts (fold-Literal (List Variable → List Quantifier) quantifiers_step l i w)
    ++ map Side (fold-Literal (List Variable → List TermUse) sides_step l i w))

-- of an equality its sides have to fit
pub equality_parts : (w : List Variable) (e : EqualityText) → condition_parts w (Equality e) ≡ map Side (sides w e)
equality_parts w e i =
    map Atom (fold-Equality (List Variable → List Use) atoms_step e i w)
    ++ (flat_map quantifier_parts (fold-Equality (List Variable → List Quantifier) quantifiers_step e i w)
    ++ map Side (fold-Equality (List Variable → List TermUse) sides_step e i w))

-- three lists of each item, item by item and list by list
module _ {X Z : Type 0} (a q s : Z → List X) (zs : List Z) (x : X) where
  -- the three kinds of parts of a value, one after the other
  abbrev mixed : Z → List X
  mixed z = a z ++ (q z ++ s z)

  -- a part of the values, kind after kind within each, is one of the kinds over all values
  pub parted : IsIn x (flat_map mixed zs) → IsIn x (flat_map a zs ++ (flat_map q zs ++ flat_map s zs))
  parted at =
      let (z, in', here) = flat_mapped mixed zs x at in
      elim (Contains-append_cases (a z) (q z ++ s z) x here) [
        | inl i ↦ in_left x (flat_map a zs) (flat_map q zs ++ flat_map s zs) (in_flat_map a z x zs in' i)
        | inr later ↦
            in_right x (flat_map a zs) (flat_map q zs ++ flat_map s zs)
            (elim (Contains-append_cases (q z) (s z) x later) [
              | inl i ↦ in_left x (flat_map q zs) (flat_map s zs) (in_flat_map q z x zs in' i)
              | inr i ↦ in_right x (flat_map q zs) (flat_map s zs) (in_flat_map s z x zs in' i)
            ])
      ]

  -- a part of one of the kinds over all values is one of the values' parts
  pub mingled : IsIn x (flat_map a zs ++ (flat_map q zs ++ flat_map s zs)) → IsIn x (flat_map mixed zs)
  mingled at =
      elim (Contains-append_cases (flat_map a zs) (flat_map q zs ++ flat_map s zs) x at) [
        | inl here ↦ let (z, in', i) = flat_mapped a zs x here in in_flat_map mixed z x zs in' (in_left x (a z) (q z ++ s z) i)
        | inr later ↦ elim (Contains-append_cases (flat_map q zs) (flat_map s zs) x later) [
          | inl here ↦
              let (z, in', i) = flat_mapped q zs x here in in_flat_map mixed z x zs in' (in_right x (a z) (q z ++ s z) (in_left x (q z) (s z) i))
          | inr here ↦
              let (z, in', i) = flat_mapped s zs x here in in_flat_map mixed z x zs in' (in_right x (a z) (q z ++ s z) (in_right x (q z) (s z) i))
        ]
      ]

module _ (w : List Variable) (gs : List VariableGroup) (cs : List Condition) where
  -- what has to fit at the variables of a `forall`
  abbrev pub own_parts : List Part
  own_parts = quantifier_parts (record { around = w; own = gs })

  -- what has to fit in the body of a `forall`
  abbrev pub body_parts : List Part
  body_parts = flat_map (condition_parts (within w gs cs)) cs

  -- what has to fit at the atoms of the body
  abbrev atoms : List Part
  atoms = flat_map (atom_parts_of (within w gs cs)) cs

  -- what has to fit at the `forall`s of the body
  abbrev qs : List Part
  qs = flat_map (quantifier_parts_of (within w gs cs)) cs

  -- what has to fit at the sides of equalities of the body
  abbrev ss : List Part
  ss = flat_map (side_parts_of (within w gs cs)) cs

  -- all of these by kind
  abbrev apart : List Part
  apart = atoms ++ ((own_parts ++ qs) ++ ss)

  -- these are what has to fit in the `forall`
  whole : apart ≡ condition_parts w (Forall gs cs)
  whole i = sym (atoms-Forall w gs cs) i ++ (sym (quantifiers-Forall w gs cs) i ++ sym (sides-Forall w gs cs) i)

  -- what has to fit at the variables is among these
  own_in : (x : Part) → IsIn x own_parts → IsIn x apart
  own_in x at = in_right x atoms ((own_parts ++ qs) ++ ss) (in_left x (own_parts ++ qs) ss (in_left x own_parts qs at))

  -- what has to fit in the body, by kind, is among these
  body_in : (x : Part) → IsIn x (atoms ++ (qs ++ ss)) → IsIn x apart
  body_in x at =
      elim (Contains-append_cases atoms (qs ++ ss) x at) [
        | inl i ↦ in_left x atoms ((own_parts ++ qs) ++ ss) i
        | inr later ↦
            in_right x atoms ((own_parts ++ qs) ++ ss)
            (elim (Contains-append_cases qs ss x later) [
              | inl i ↦ in_left x (own_parts ++ qs) ss (in_right x own_parts qs i)
              | inr i ↦ in_right x (own_parts ++ qs) ss i
            ])
      ]

  -- what is among these is of the variables or of the body
  from : (x : Part) → IsIn x apart → IsIn x (own_parts ++ body_parts)
  from x at =
      let body_at : IsIn x (atoms ++ (qs ++ ss)) → IsIn x (own_parts ++ body_parts) = λ i.
      in_right x own_parts body_parts (mingled (atom_parts_of (within w gs cs)) (quantifier_parts_of (within w gs cs)) (side_parts_of (within w gs cs)) cs x i) in
      elim (Contains-append_cases atoms ((own_parts ++ qs) ++ ss) x at) [
        | inl i ↦ body_at (in_left x atoms (qs ++ ss) i)
        | inr later ↦ elim (Contains-append_cases (own_parts ++ qs) ss x later) [
          | inl i ↦ elim (Contains-append_cases own_parts qs x i) [
            | inl here ↦ in_left x own_parts body_parts here
            | inr here ↦ body_at (in_right x atoms (qs ++ ss) (in_left x qs ss here))
          ]
          | inr i ↦ body_at (in_right x atoms (qs ++ ss) (in_right x qs ss i))
        ]
      ]

  -- the variables of a `forall`, and its body
  pub own_of_forall : (x : Part) → IsIn x own_parts → IsIn x (condition_parts w (Forall gs cs))
  own_of_forall x at = subst (IsIn x) whole (own_in x at)

  -- what has to fit at the variables or in the body has to fit in the `forall`
  pub to_forall : (x : Part) → IsIn x (own_parts ++ body_parts) → IsIn x (condition_parts w (Forall gs cs))
  to_forall x at =
      subst (IsIn x) whole
      (elim (Contains-append_cases own_parts body_parts x at) [
        | inl i ↦ own_in x i
        | inr i ↦ body_in x (parted (atom_parts_of (within w gs cs)) (quantifier_parts_of (within w gs cs)) (side_parts_of (within w gs cs)) cs x i)
      ])

  -- what has to fit in the `forall` has to fit at the variables or in the body
  pub from_forall : (x : Part) → IsIn x (condition_parts w (Forall gs cs)) → IsIn x (own_parts ++ body_parts)
  from_forall x at = from x (subst (IsIn x) (sym whole) at)

-- ## Conditions

module _ (w : List Variable) (cs : List Condition) where
  -- the parts of each kind over all conditions are those of the conditions together
  each : flat_map (atom_parts_of w) cs ++ (flat_map (quantifier_parts_of w) cs ++ flat_map (side_parts_of w) cs) ≡ conditions_parts w cs
  each i = atoms-each w cs i ++ (quantifiers-each w cs i ++ sides-each w cs i)

  -- what has to fit in one of the conditions has to fit in them together
  pub to_conditions : (x : Part) → IsIn x (flat_map (condition_parts w) cs) → IsIn x (conditions_parts w cs)
  to_conditions x at = subst (IsIn x) each (parted (atom_parts_of w) (quantifier_parts_of w) (side_parts_of w) cs x at)

  -- what has to fit in the conditions together has to fit in one of them
  pub from_conditions : (x : Part) → IsIn x (conditions_parts w cs) → IsIn x (flat_map (condition_parts w) cs)
  from_conditions x at = mingled (atom_parts_of w) (quantifier_parts_of w) (side_parts_of w) cs x (subst (IsIn x) (sym each) at)
