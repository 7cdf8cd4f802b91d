-- Declarations of types that lie on cycles.
use Rattle.std.proofs.Common.{◌≡◌, ℕ, ◌<◌, ◌↔◌, Bool, true, false, map, refl, sym, ap₂, subst, ◌∙◌, length}
use Rattle.std.specs.List.{Contains}
use Rattle.std.proofs.lemmas.Bool.{true≢false}
use Rattle.std.proofs.lemmas.List.Elements.{Contains-append_left}
use Rattle.hddl_words.specs.declared.domain.DomainText.{DomainText}
use Rattle.hddl_meaning.specs.Mentions.{Text, Typed, texts, typed_names}
use Rattle.hddl_meaning.specs.Names.{number_in, object, type_mentions, type_names}
use Rattle.hddl_meaning.specs.Types.{IsBelow, IsOnCycle, declared_pair, declared_pairs, is_object_pair, text_or_object}
use Rattle.hddl_names.specs.TypeNumbers.{is_root, type_at}
use Rattle.hddl_names.proofs.Texts.{number-small, number-names}
use Rattle.hddl_names.proofs.Parents.{object_pair-is_root, root-is_object_pair, typed-types, written_pairs}
use Rattle.hddl_names.proofs.Within.{mapped}

-- a pair by number lies on a cycle
abbrev pub IsCircle : DomainText → ℕ × ℕ → Type 0
IsCircle d p = (is_root p ≡ false) × IsBelow d (type_at d p.1) (type_at d p.0)

-- ## One declared pair

module _ (d : DomainText) (t : Typed) (there : Contains (typed_names d.types) t) where
  -- the pair of the typed name, by number
  abbrev pub pair : ℕ × ℕ
  pair = (number_in (type_names d) t.mention.text, number_in (type_names d) (text_or_object t.of_type))

  -- both its names are types
  types : Contains (type_names d) t.mention.text × Contains (type_names d) (text_or_object t.of_type)
  types = typed-types d t there

  -- both its numbers are those of types
  pub small : (pair.0 < length (type_names d)) × (pair.1 < length (type_names d))
  small = (number-small (type_names d) t.mention.text types.0, number-small (type_names d) (text_or_object t.of_type) types.1)

  -- the pair is among those that are written
  written : Contains {X = Text × Text} (written_pairs d) (declared_pair t)
  written =
      Contains-append_left (declared_pairs d) (map (λ text. (text, object)) (texts (type_mentions d))) (declared_pair t)
      (mapped declared_pair (typed_names d.types) t there)

  -- it is `object` with itself by number exactly where it is by name
  same_test : is_root pair ≡ is_object_pair (declared_pair t)
  same_test = by (is_root pair) (is_object_pair (declared_pair t)) refl refl
    where
      by : (a b : Bool) → is_root pair ≡ a → is_object_pair (declared_pair t) ≡ b → a ≡ b
      by true true _ _ = refl
      by false false _ _ = refl
      by true false a_is b_is = absurd (true≢false (sym (root-is_object_pair d (declared_pair t) written a_is) ∙ b_is))
      by false true a_is b_is = absurd (true≢false (sym (object_pair-is_root d (declared_pair t) b_is) ∙ a_is))

  -- its parent is below its child by number exactly where it is by name
  same_types : IsBelow d (type_at d pair.1) (type_at d pair.0) ≡ IsBelow d (text_or_object t.of_type) t.mention.text
  same_types = ap₂ (IsBelow d) (number-names (type_names d) (text_or_object t.of_type) types.1) (number-names (type_names d) t.mention.text types.0)

  -- it is on a cycle by number exactly where it is by name
  pub circle-typed : IsCircle d pair ↔ IsOnCycle d t
  circle-typed = (
    λ h. (sym same_test ∙ h.0, subst (λ (X : Type 0). X) same_types h.1),
    λ h. (same_test ∙ h.0, subst (λ (X : Type 0). X) (sym same_types) h.1),
  )
