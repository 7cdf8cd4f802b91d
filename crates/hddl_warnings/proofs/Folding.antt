-- The parts of conditions, condition by condition.
use Rattle.std.proofs.Common.{◌≡◌, ℕ, ◌+◌, ◌<◌, List, [], ◌∷◌, ◌++◌, map, refl, sym, ap, ◌∙◌, rules, take, get_or, length, append-nil, append_assoc}
use Rattle.std.specs.List.{flat_map}
use Rattle.std.proofs.lemmas.Grind.{flat_map-append}
use Rattle.std.proofs.lemmas.List.Folds.{flat_map-map}
use Rattle.std.proofs.lemmas.List.{map-append}
use Rattle.hddl_words.specs.declared.condition.EqualityText.{EqualityText}
use Rattle.hddl_words.specs.declared.condition.LiteralText.{LiteralText}
use Rattle.hddl_words.specs.declared.term.VariableGroup.{VariableGroup}
use Rattle.hddl_words.specs.declared.condition.Condition.{Condition, fold-Condition, Literal, Equality, Forall, the_lemmas}
use Rattle.hddl_words.specs.declared.condition.Condition.TheOpen.{Condition-F}
use Rattle.hddl_meaning.specs.Uses.{Variable, Use, TermUse, Quantifier, quantified_of, quantifiers_step, atoms_step, sides_step}
use Rattle.hddl_warnings.specs.declared.parts.Parts.{Parts}
use Rattle.hddl_warnings.specs.Parts.{AddsConditions, AddsEach, AddsParts, atoms, condition_atoms, condition_groups, condition_sides, groups, sides}
use Rattle.hddl_warnings.proofs.Members.{flat_grown}

-- ## Folds

-- what is told of a literal is told by its step
fold-Literal : (X : Type 0) (step : Condition-F X → X) (l : LiteralText) → fold-Condition X step (Literal l) ≡ step (Condition-F.Literal l)
fold-Literal X step l = search (rules, the_lemmas)

-- what is told of an equality is told by its step
fold-Equality : (X : Type 0) (step : Condition-F X → X) (e : EqualityText) → fold-Condition X step (Equality e) ≡ step (Condition-F.Equality e)
fold-Equality X step e = search (rules, the_lemmas)

-- what is told of a `forall` is told of its variables and of what is told of its parts
fold-Forall : (X : Type 0) (step : Condition-F X → X) (gs : List VariableGroup) (body : List Condition)
    → fold-Condition X step (Forall gs body) ≡ step (Condition-F.Forall gs (map (fold-Condition X step) body))
fold-Forall X step gs body = search (rules, the_lemmas)

-- joined lists are joined again list by list
pub flat_flat : {X Y Z : Type 0} (h : Y → List Z) (g : X → List Y) (xs : List X) → flat_map h (flat_map g xs) ≡ flat_map (λ x. flat_map h (g x)) xs
flat_flat h g [] = refl
flat_flat h g (x ∷ xs) = flat_map-append h (g x) (flat_map g xs) ∙ ap (λ l. flat_map h (g x) ++ l) (flat_flat h g xs)

-- joined lists are mapped list by list
pub map_flat : {X Y Z : Type 0} (h : Y → Z) (g : X → List Y) (xs : List X) → map h (flat_map g xs) ≡ flat_map (λ x. map h (g x)) xs
map_flat h g [] = refl
map_flat h g (x ∷ xs) = map-append h (g x) (flat_map g xs) ∙ ap (λ l. map h (g x) ++ l) (map_flat h g xs)

-- what the parts of a body give under its variables
body : {X : Type 0} (step : Condition-F (List Variable → List X) → List Variable → List X) (variables : List Variable) (cs : List Condition)
    → flat_map (λ part. part variables) (map (fold-Condition (List Variable → List X) step) cs) ≡ flat_map (λ c. fold-Condition (List Variable → List X) step c variables) cs
body {X} step variables cs = flat_map-map (λ part. part variables) (fold-Condition (List Variable → List X) step) cs

-- ## Each kind of condition

module _ (v : List Variable) where
  -- the atom of a literal
  pub literal_atoms : (l : LiteralText) → condition_atoms v (Literal l) ≡ l.atom ∷ []
  literal_atoms l = ap (λ (f : List Variable → List Use). map (λ u. u.atom) (f v)) (fold-Literal (List Variable → List Use) atoms_step l)

  -- no sides of a literal
  pub literal_sides : (l : LiteralText) → condition_sides v (Literal l) ≡ []
  literal_sides l = ap (λ (f : List Variable → List TermUse). map (λ u. u.term) (f v)) (fold-Literal (List Variable → List TermUse) sides_step l)

  -- no variables of a literal
  pub literal_groups : (l : LiteralText) → condition_groups v (Literal l) ≡ []
  literal_groups l = ap (λ (f : List Variable → List Quantifier). flat_map (λ q. q.own) (f v)) (fold-Literal (List Variable → List Quantifier) quantifiers_step l)

  -- no atom of an equality
  pub equality_atoms : (e : EqualityText) → condition_atoms v (Equality e) ≡ []
  equality_atoms e = ap (λ (f : List Variable → List Use). map (λ u. u.atom) (f v)) (fold-Equality (List Variable → List Use) atoms_step e)

  -- both sides of an equality
  pub equality_sides : (e : EqualityText) → condition_sides v (Equality e) ≡ e.left ∷ e.right ∷ []
  equality_sides e = ap (λ (f : List Variable → List TermUse). map (λ u. u.term) (f v)) (fold-Equality (List Variable → List TermUse) sides_step e)

  -- no variables of an equality
  pub equality_groups : (e : EqualityText) → condition_groups v (Equality e) ≡ []
  equality_groups e = ap (λ (f : List Variable → List Quantifier). flat_map (λ q. q.own) (f v)) (fold-Equality (List Variable → List Quantifier) quantifiers_step e)

  module _ (gs : List VariableGroup) (cs : List Condition) where
    -- the variables in force in the body of a `forall`
    abbrev pub within : List Variable
    within = v ++ quantified_of gs

    -- the atoms of the body of a `forall`
    pub forall_atoms : condition_atoms v (Forall gs cs) ≡ flat_map (condition_atoms within) cs
    forall_atoms =
        ap (λ (f : List Variable → List Use). map (λ u. u.atom) (f v)) (fold-Forall (List Variable → List Use) atoms_step gs cs)
        ∙ ap (map (λ u. u.atom)) (body atoms_step within cs) ∙ map_flat (λ u. u.atom) (λ c. fold-Condition (List Variable → List Use) atoms_step c within) cs

    -- the sides of the body of a `forall`
    pub forall_sides : condition_sides v (Forall gs cs) ≡ flat_map (condition_sides within) cs
    forall_sides =
        ap (λ (f : List Variable → List TermUse). map (λ u. u.term) (f v)) (fold-Forall (List Variable → List TermUse) sides_step gs cs)
        ∙ ap (map (λ u. u.term)) (body sides_step within cs) ∙ map_flat (λ u. u.term) (λ c. fold-Condition (List Variable → List TermUse) sides_step c within) cs

    -- the variables of a `forall` and of its body
    pub forall_groups : condition_groups v (Forall gs cs) ≡ gs ++ flat_map (condition_groups within) cs
    forall_groups =
        ap (λ (f : List Variable → List Quantifier). flat_map (λ q. q.own) (f v)) (fold-Forall (List Variable → List Quantifier) quantifiers_step gs cs)
        ∙ ap (λ l. gs ++ l)
        (ap (flat_map (λ q. q.own)) (body quantifiers_step within cs) ∙ flat_flat (λ q. q.own) (λ c. fold-Condition (List Variable → List Quantifier) quantifiers_step c within) cs)

-- ## What is added

-- the atom of a literal is added
pub Adds-literal : (old new : Parts) (l : LiteralText) (c : Condition) → c ≡ Literal l → atoms new ≡ atoms old ++ l.atom ∷ [] → sides new ≡ sides old
    → groups new ≡ groups old → AddsParts old new c
Adds-literal old new l c is a s g = record {
  atoms = λ v. a ∙ ap (λ r. atoms old ++ r) (sym (ap (condition_atoms v) is ∙ literal_atoms v l));
  sides = λ v. s ∙ sym (append-nil (sides old)) ∙ ap (λ r. sides old ++ r) (sym (ap (condition_sides v) is ∙ literal_sides v l));
  groups = λ v. g ∙ sym (append-nil (groups old)) ∙ ap (λ r. groups old ++ r) (sym (ap (condition_groups v) is ∙ literal_groups v l));
}

-- two items are added one after the other
pub push_two : {X Y : Type 0} (f : X → Y) (old mid new : List X) (a b : X) → mid ≡ old ++ a ∷ [] → new ≡ mid ++ b ∷ [] → map f new ≡ map f old ++ f a ∷ f b ∷ []
push_two f old mid new a b p q =
    ap (map f) (q ∙ ap (λ l. l ++ b ∷ []) p) ∙ map-append f (old ++ a ∷ []) (b ∷ []) ∙ ap (λ l. l ++ f b ∷ []) (map-append f old (a ∷ []))
    ∙ append_assoc (map f old) (f a ∷ []) (f b ∷ [])

-- the sides of an equality are added
pub Adds-equality : (old new : Parts) (e : EqualityText) (c : Condition) → c ≡ Equality e → atoms new ≡ atoms old → sides new ≡ sides old ++ e.left ∷ e.right ∷ []
    → groups new ≡ groups old → AddsParts old new c
Adds-equality old new e c is a s g = record {
  atoms = λ v. a ∙ sym (append-nil (atoms old)) ∙ ap (λ r. atoms old ++ r) (sym (ap (condition_atoms v) is ∙ equality_atoms v e));
  sides = λ v. s ∙ ap (λ r. sides old ++ r) (sym (ap (condition_sides v) is ∙ equality_sides v e));
  groups = λ v. g ∙ sym (append-nil (groups old)) ∙ ap (λ r. groups old ++ r) (sym (ap (condition_groups v) is ∙ equality_groups v e));
}

-- the variables of a `forall` and the parts of its body are added
pub Adds-forall : (old mid new : Parts) (gs : List VariableGroup) (cs : List Condition) (c : Condition) → c ≡ Forall gs cs → atoms mid ≡ atoms old
    → sides mid ≡ sides old → groups mid ≡ groups old ++ gs → AddsEach mid new cs → AddsParts old new c
Adds-forall old mid new gs cs c is a s g each = record {
  atoms = λ v. each.atoms (v ++ quantified_of gs) ∙ ap (λ l. l ++ flat_map (condition_atoms (v ++ quantified_of gs)) cs) a
      ∙ ap (λ r. atoms old ++ r) (sym (ap (condition_atoms v) is ∙ forall_atoms v gs cs));
  sides = λ v. each.sides (v ++ quantified_of gs) ∙ ap (λ l. l ++ flat_map (condition_sides (v ++ quantified_of gs)) cs) s
      ∙ ap (λ r. sides old ++ r) (sym (ap (condition_sides v) is ∙ forall_sides v gs cs));
  groups = λ v. each.groups (v ++ quantified_of gs) ∙ ap (λ l. l ++ flat_map (condition_groups (v ++ quantified_of gs)) cs) g
      ∙ append_assoc (groups old) gs (flat_map (condition_groups (v ++ quantified_of gs)) cs)
      ∙ ap (λ r. groups old ++ r) (sym (ap (condition_groups v) is ∙ forall_groups v gs cs));
}

-- of no conditions nothing is added
pub AddsEach-nothing : (old : Parts) → AddsEach old old []
AddsEach-nothing old = record { atoms = λ v. sym (append-nil (atoms old)); sides = λ v. sym (append-nil (sides old)); groups = λ v. sym (append-nil (groups old)) }

-- the step of a loop that adds the parts of each condition
pub AddsEach-next : (old mid new : Parts) (cs : List Condition) (k : ℕ) (c : Condition) → k < length cs → c ≡ get_or cs k c → AddsEach old mid (take k cs)
    → AddsParts mid new c → AddsEach old new (take (k + 1) cs)
AddsEach-next old mid new cs k c lt is each one = record {
  atoms = λ v. one.atoms v ∙ ap (λ l. l ++ condition_atoms v c) (each.atoms v) ∙ append_assoc (atoms old) (flat_map (condition_atoms v) (take k cs)) (condition_atoms v c)
      ∙ ap (λ l. atoms old ++ l) (sym (flat_grown (condition_atoms v) cs k c lt is));
  sides = λ v. one.sides v ∙ ap (λ l. l ++ condition_sides v c) (each.sides v) ∙ append_assoc (sides old) (flat_map (condition_sides v) (take k cs)) (condition_sides v c)
      ∙ ap (λ l. sides old ++ l) (sym (flat_grown (condition_sides v) cs k c lt is));
  groups = λ v. one.groups v ∙ ap (λ l. l ++ condition_groups v c) (each.groups v) ∙ append_assoc (groups old) (flat_map (condition_groups v) (take k cs)) (condition_groups v c)
      ∙ ap (λ l. groups old ++ l) (sym (flat_grown (condition_groups v) cs k c lt is));
}

-- the parts of conditions are those of each
pub AddsConditions-each : (old new : Parts) (cs : List Condition) → AddsEach old new cs → AddsConditions old new cs
AddsConditions-each old new cs each = record {
  atoms = λ v. each.atoms v ∙ ap (λ l. atoms old ++ l) (sym (map_flat (λ u. u.atom) (λ c. fold-Condition (List Variable → List Use) atoms_step c v) cs));
  sides = λ v. each.sides v ∙ ap (λ l. sides old ++ l) (sym (map_flat (λ u. u.term) (λ c. fold-Condition (List Variable → List TermUse) sides_step c v) cs));
  groups = λ v. each.groups v ∙ ap (λ l. groups old ++ l) (sym (flat_flat (λ q. q.own) (λ c. fold-Condition (List Variable → List Quantifier) quantifiers_step c v) cs));
}
