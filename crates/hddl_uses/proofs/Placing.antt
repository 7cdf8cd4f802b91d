-- When an argument fits its place.
use Rattle.std.proofs.Common.{◌≡◌, ℕ, ◌+◌, ◌<◌, ◌||◌, ◌↔◌, IsTrue, Bool, true, false, not, cond, nat_lt, suc, List, [], ◌∷◌, Option, Some, None, is_some, inl, refl, sym, ap, subst, ◌∙◌, get_or, length, arith, true≢false, Contains}
use Rattle.std.specs.List.{All, list_any, position, position_or_len}
use Rattle.std.proofs.lemmas.Bool.Decides.{Decides-ltb}
use Rattle.std.proofs.lemmas.List.Elements.{All-get_or, All-from_get_or}
use Rattle.std.proofs.Math.Logic.{∥∥₁_elim, ∥∥₁_map}
use Rattle.std.proofs.Props.{props}
use Rattle.hddl_words.specs.declared.domain.DomainText.{DomainText}
use Rattle.hddl_words.specs.declared.problem.ProblemText.{ProblemText}
use Rattle.hddl_meaning.specs.Mentions.{Text, Typed, IsIn}
use Rattle.hddl_meaning.specs.Names.{is_same_text, number_or_zero, object_declarations, object_names, type_names}
use Rattle.hddl_meaning.specs.Types.{text_or_object, HasType, IsBelow}
use Rattle.hddl_meaning.specs.Uses.{Variable}
use Rattle.hddl_meaning.specs.Items.{IsDeclaredType, MayStand, ShareSubtype}
use Rattle.hddl_meaning.proofs.Listed.{texts_decide}
use Rattle.hddl_names.specs.Members.{AreDeclaredTypes, object_at}
use Rattle.hddl_names.specs.Reach.{Reaches}
use Rattle.hddl_names.specs.TypeNumbers.{type_at, numbered_pairs}
use Rattle.hddl_uses.specs.Known.{AreKnown, IsTyped}
use Rattle.hddl_scope.proofs.Positions.{has_position}
use Rattle.hddl_uses.proofs.TypeNames.{is_type_number}
use Rattle.hddl_uses.proofs.Searching.{named}

-- a test doesn't hold together with its opposite
pub not_both : (b : Bool) → not b ≡ true → b ≡ true → ⊥
not_both true h e = true≢false (sym h)
not_both false h e = true≢false (sym e)

-- a test that can't hold has its opposite hold
pub not_by : (b : Bool) → (b ≡ true → ⊥) → not b ≡ true
not_by true h = absurd (h refl)
not_by false h = refl

-- a text that is among others stands at its first position
at_first : (ts : List Text) (t : Text) → list_any (is_same_text t) ts ≡ true
    → (position_or_len (is_same_text t) ts < length ts) × (get_or ts (position_or_len (is_same_text t) ts) [] ≡ t)
at_first [] t h = cc
at_first (u ∷ ts) t h = by (is_same_text t u) refl (at_first ts t) h
  where
    first : ℕ
    first = position_or_len (is_same_text t) ts

    by : (b : Bool) → is_same_text t u ≡ b → (list_any (is_same_text t) ts ≡ true → (first < length ts) × (get_or ts first [] ≡ t)) → (b || list_any (is_same_text t) ts) ≡ true
        → (cond (not b) (1 + first) 0 < length (u ∷ ts)) × (get_or (u ∷ ts) (cond (not b) (1 + first) 0) [] ≡ t)
    by true e rest h = (omega arith, sym ((texts_decide t u).0 e))
    by false e rest h =
        let (lt, is) = rest h in
        let next : suc first ≡ 1 + first = omega arith in
        (omega (arith, lt), subst (λ n. get_or (u ∷ ts) n [] ≡ t) next is)

-- what stands at a name's position
pub at_position : (ts : List Text) (t : Text) (k : ℕ) → position (is_same_text t) ts ≡ Some k → (k < length ts) × (get_or ts k [] ≡ t)
at_position ts t k e =
    let first : ℕ = position_or_len (is_same_text t) ts in
    let some : list_any (is_same_text t) ts ≡ true = sym (has_position (is_same_text t) ts) ∙ ap is_some e in
    let (lt, is) = at_first ts t some in
    let test : nat_lt first (length ts) ≡ true = (Decides-ltb first (length ts)).1 lt in
    let same : first ≡ k = ap number_or_zero (sym (ap (λ b. cond b (Some first) None) test) ∙ e) in
    subst (λ n. (n < length ts) × (get_or ts n [] ≡ t)) same (lt, is)

-- a type with a position is declared
pub type_known : (d : DomainText) (t : Text) (k : ℕ) → position (is_same_text t) (type_names d) ≡ Some k → IsDeclaredType d t
type_known d t k e = (is_type_number d t).0 (ap is_some e)

-- a type without a position isn't declared
pub type_unknown : (d : DomainText) (t : Text) → position (is_same_text t) (type_names d) ≡ None → IsDeclaredType d t → ⊥
type_unknown d t e h = true≢false (sym ((is_type_number d t).1 h) ∙ ap is_some e)

-- where all is known, the types of constants and objects are declared
pub declared_types : (d : DomainText) (p : ProblemText) → ∥ AreKnown d p ∥₁ → (t : Typed) → IsIn t (object_declarations d p) → IsTyped d t
declared_types d p known t at =
    let number = is_type_number d (text_or_object t.of_type) in number.0 (∥∥₁_elim known (search props) (λ k. number.1 (k.typed t at)))

module _ (d : DomainText) (v : Variable) (type : Text) where
  -- a variable of a `forall` may stand where its type is below the place's
  pub quantified : v.is_quantified ≡ true → MayStand d v type ↔ IsBelow d (text_or_object v.typed.of_type) type
  quantified e =
      subst (λ b. MayStand d (record { typed = v.typed; is_quantified = b }) type ↔ IsBelow d (text_or_object v.typed.of_type) type) (sym e) (λ h. h, λ h. h)

  -- any other variable may stand where its type and the place's share a subtype
  pub unquantified : v.is_quantified ≡ false → MayStand d v type ↔ ShareSubtype d (text_or_object v.typed.of_type) type
  unquantified e =
      subst (λ b. MayStand d (record { typed = v.typed; is_quantified = b }) type ↔ ShareSubtype d (text_or_object v.typed.of_type) type) (sym e) (λ h. h, λ h. h)

-- ## A variable that can't stand in a place

-- the type of a variable, by its text
abbrev pub type_text : Variable → Text
type_text v = text_or_object v.typed.of_type

-- the position of a variable's type
abbrev pub type_position : DomainText → Variable → Option ℕ
type_position d v = position (is_same_text (type_text v)) (type_names d)

-- both types are declared, and the variable may not stand in the place
abbrev pub IsBarred : DomainText → Variable → Variable → Type 0
IsBarred d v place = IsTyped d v.typed × IsTyped d place.typed × (MayStand d v (type_text place) → ⊥)

-- where both types have positions, the test tells whether the variable is barred
pub barred : (d : DomainText) (v place : Variable) (t u : ℕ) (stands : Bool) → type_position d v ≡ Some t → type_position d place ≡ Some u
    → (IsTrue stands ↔ MayStand d v (type_text place)) → IsTrue (not stands) ↔ IsBarred d v place
barred d v place t u stands own wanted is = (
  λ h. (type_known d (type_text v) t own, type_known d (type_text place) u wanted, λ may. not_both stands h (is.1 may)),
  λ (a, b, cannot). not_by stands (λ h. cannot (is.0 h)),
)

-- a variable that isn't barred is told so
pub not_barred : (d : DomainText) (v place : Variable) → (IsBarred d v place → ⊥) → IsTrue false ↔ IsBarred d v place
not_barred d v place never = (λ h. absurd (true≢false (sym h)), λ h. absurd (never h))

-- a variable of a declared type may stand in a place of the same type
pub same_stands : (d : DomainText) (v place : Variable) → type_text v ≡ type_text place → IsTyped d v.typed → MayStand d v (type_text place)
same_stands d v place same typed = by v.is_quantified refl
  where
    by : (b : Bool) → v.is_quantified ≡ b → MayStand d v (type_text place)
    by true e = (quantified d v (type_text place) e).1 (inl same)
    by false e = (unquantified d v (type_text place) e).1 (type_text v, typed, inl refl, inl same)

module _ (d : DomainText) (v place : Variable) (t u : ℕ) (own : type_position d v ≡ Some t) (wanted : type_position d place ≡ Some u) where
  -- the type at the variable's position is the variable's
  own_at : type_at d t ≡ type_text v
  own_at = (at_position (type_names d) (type_text v) t own).1

  -- the type at the place's position is the place's
  wanted_at : type_at d u ≡ type_text place
  wanted_at = (at_position (type_names d) (type_text place) u wanted).1

  -- a test of which type is below which tells whether a variable of a `forall` may stand
  pub stands_below : (b : Bool) → v.is_quantified ≡ true → (IsTrue b ↔ IsBelow d (type_at d t) (type_at d u)) → IsTrue b ↔ MayStand d v (type_text place)
  stands_below b q is =
      let same : IsTrue b ↔ IsBelow d (type_text v) (type_text place) =
      subst (λ (x : Text). IsTrue b ↔ IsBelow d x (type_text place)) own_at (subst (λ (y : Text). IsTrue b ↔ IsBelow d (type_at d t) y) wanted_at is) in
      (λ h. (quantified d v (type_text place) q).1 (same.0 h), λ h. same.1 ((quantified d v (type_text place) q).0 h))

  -- a test of shared subtypes tells whether any other variable may stand
  pub stands_sharing : (b : Bool) → v.is_quantified ≡ false → (IsTrue b ↔ ShareSubtype d (type_at d t) (type_at d u)) → IsTrue b ↔ MayStand d v (type_text place)
  stands_sharing b q is =
      let same : IsTrue b ↔ ShareSubtype d (type_text v) (type_text place) =
      subst (λ (x : Text). IsTrue b ↔ ShareSubtype d x (type_text place)) own_at (subst (λ (y : Text). IsTrue b ↔ ShareSubtype d (type_at d t) y) wanted_at is) in
      (λ h. (unquantified d v (type_text place) q).1 (same.0 h), λ h. same.1 ((unquantified d v (type_text place) q).0 h))

-- ## An object that lacks the type of a place

-- the types of objects are known, with these rows
abbrev pub KnownWith : DomainText → ProblemText → List (List ℕ) → Type 0
KnownWith d p rows = ∥ AreKnown d p × AreDeclaredTypes d p rows ∥₁

-- then the rows have numbers of types
pub rows_typed : (d : DomainText) (p : ProblemText) (rows : List (List ℕ)) → KnownWith d p rows → All (All (λ t. t < length (type_names d))) rows
rows_typed d p rows known =
    All-from_get_or (All (λ t. t < length (type_names d))) rows []
    (λ o lt. All-from_get_or (λ t. t < length (type_names d)) (get_or rows o []) 0
    (λ i small. ∥∥₁_elim known (search props)
    (λ h. All-get_or (λ t. t < length (type_names d)) (get_or rows o []) i 0 small (All-get_or (All (λ t. t < length (type_names d))) rows o [] lt h.1.typed))))

module _ (d : DomainText) (p : ProblemText) (t : Text) (place : Variable) where
  -- the object's declared types are known, and it hasn't the type of the place
  abbrev pub Lacks : Type 0
  Lacks = ∥ AreKnown d p ∥₁ × IsTyped d place.typed × IsIn t (object_names d p) × (HasType d p t (type_text place) → ⊥)

  -- an object that lacks no type is told so
  pub lacks_none : (Lacks → ⊥) → IsTrue false ↔ Lacks
  lacks_none never = (λ h. absurd (true≢false (sym h)), λ h. absurd (never h))

  module _ (rows : List (List ℕ)) (o u : ℕ) (found : position (is_same_text t) (object_names d p) ≡ Some o) (wanted : type_position d place ≡ Some u) where
    -- one of the types in the object's row leads to that of the place
    abbrev pub LeadsThere : Type 0
    LeadsThere = (own : ℕ) × Contains (get_or rows o []) own × Reaches (numbered_pairs d) own u

    -- a declared type of the object leads to the place's exactly where the object has that type
    led : AreDeclaredTypes d p rows → LeadsThere ↔ HasType d p t (type_text place)
    led all =
        let object = at_position (object_names d p) t o found in
        let type = at_position (type_names d) (type_text place) u wanted in
        subst (λ (x : Text). LeadsThere ↔ HasType d p x (type_text place)) object.1
        (subst (λ (y : Text). LeadsThere ↔ HasType d p (object_at d p o) y) type.1 (all.members u o type.0 object.0))

    -- the test of what leads there tells whether the object lacks the type
    pub lacks : (has : Bool) → KnownWith d p rows → (IsTrue has ↔ LeadsThere) → IsTrue (not has) ↔ Lacks
    lacks has known is = (
      λ h. (
        ∥∥₁_map known (λ k. k.0),
        type_known d (type_text place) u wanted,
        (named (object_names d p) t).0 (ap is_some found),
        λ typed. ∥∥₁_elim known (λ x y. absurd x) (λ k. not_both has h (is.1 ((led k.1).1 typed))),
      ),
      λ (k, w, at, lacking). not_by has (λ h. ∥∥₁_elim known (λ x y. absurd x) (λ k. lacking ((led k.1).0 (is.0 h)))),
    )

  -- the place's type has a number
  pub type_small : (u : ℕ) → type_position d place ≡ Some u → u < length (type_names d)
  type_small u wanted = (at_position (type_names d) (type_text place) u wanted).0
