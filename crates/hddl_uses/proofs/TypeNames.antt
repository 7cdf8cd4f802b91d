-- Types that are named, group by group.
use Rattle.std.proofs.Common.{◌≡◌, ◌↔◌, true, List, [], ◌∷◌, ◌++◌, map, Option, Some, None, refl, sym, ap, subst, ◌∙◌, inl, inr, option_map, is_some, append-nil}
use Rattle.std.specs.List.{flat_map, position}
use Rattle.hddl_words.specs.declared.domain.DomainText.{DomainText}
use Rattle.std.proofs.lemmas.Grind.{flat_map-append}
use Rattle.std.proofs.lemmas.List.{map-append}
use Rattle.hddl_words.specs.Names.{Name}
use Rattle.hddl_words.specs.Names as words
use Rattle.hddl_words.specs.declared.term.NameGroup.{NameGroup}
use Rattle.hddl_words.specs.declared.term.VariableGroup.{VariableGroup}
use Rattle.hddl_meaning.specs.Mentions.{Text, Mention, Typed, IsIn, mention_of, texts, typed_names, typed_variables, variable_mention}
use Rattle.hddl_meaning.specs.Names.{optional_mention, is_same_text, object, type_mentions, type_names}
use Rattle.hddl_meaning.specs.Items.{type_of, IsDeclaredType}
use Rattle.hddl_meaning.proofs.Listed.{at_head, at_tail, in_left, in_cases, in_nothing}
use Rattle.hddl_meaning.specs.declared.fault.CheckFault.{CheckFault}
use Rattle.hddl_scope.specs.Findings.{AddsAny, Kept}
use Rattle.hddl_scope.proofs.Adding.{Adds-list, Adds-mapped}
use Rattle.hddl_scope.proofs.Positions.{is_number_of}
use Rattle.hddl_uses.specs.Parts.{Part, TypeName, type_parts, variable_group_parts, name_group_parts}

-- ## The types of a group are its type, if it has a name

module _ {X : Type 0} (mention : X → Mention) (of_type : Option Name) where
  -- a name of the group with the group's type
  abbrev pub typed_as : X → Typed
  typed_as x = record { mention = mention x; of_type = option_map mention_of of_type }

  -- a type that a group's names have is the group's
  pub types_within : (xs : List X) (m : Mention) → IsIn m (flat_map type_of (map typed_as xs)) → IsIn m (optional_mention of_type)
  types_within xs m at = by of_type xs at
    where
      typed : Option Name → X → Typed
      typed o x = record { mention = mention x; of_type = option_map mention_of o }

      by : (o : Option Name) (xs : List X) → IsIn m (flat_map type_of (map (λ x. record { mention = mention x; of_type = option_map mention_of o }) xs)) → IsIn m (optional_mention o)
      by None [] at = absurd (in_nothing m at)
      by None (x ∷ xs) at = by None xs at
      by (Some n) [] at = absurd (in_nothing m at)
      by (Some n) (x ∷ xs) at =
          elim (in_cases (mention_of n) m (flat_map type_of (map (λ x. record { mention = mention x; of_type = Some (mention_of n) }) xs)) at) [
            | inl is ↦ subst (λ z. IsIn z (mention_of n ∷ [])) is (at_head (mention_of n) [])
            | inr later ↦ by (Some n) xs later
          ]

  -- the type of a group with a name is the type of one of its names
  pub types_all : (x : X) (xs : List X) (m : Mention) → IsIn m (optional_mention of_type) → IsIn m (flat_map type_of (map typed_as (x ∷ xs)))
  types_all x xs m at = by of_type at
    where
      by : (o : Option Name) → IsIn m (optional_mention o) → IsIn m (flat_map type_of (map (λ x. record { mention = mention x; of_type = option_map mention_of o }) (x ∷ xs)))
      by None at = absurd (in_nothing m at)
      by (Some n) at = in_left m (mention_of n ∷ []) (flat_map type_of (map (λ x. record { mention = mention x; of_type = Some (mention_of n) }) xs)) at

-- ## Declared types

-- a type has a number exactly where it is declared
pub is_type_number : (d : DomainText) (t : Text) → (is_some (position (is_same_text t) (type_names d)) ≡ true) ↔ IsDeclaredType d t
is_type_number d t =
    let all = object ∷ texts (type_mentions d) in (
      λ h. elim (in_cases object t (texts (type_mentions d)) ((is_number_of all t).0 h)) [ inl is ↦ inl (sym is) | inr at ↦ inr at ],
      λ h. (is_number_of all t).1 (elim h [ inl is ↦ subst (λ z. IsIn z all) (sym is) (at_head object (texts (type_mentions d))) | inr at ↦ at_tail object t (texts (type_mentions d)) at ]),
    )

-- ## Faults

module _ (O P : Part → CheckFault → Type 0) where
  -- faults of a group's type are those of its names' types
  group_types : {X : Type 0} (mention : X → Mention) (of_type : Option Name) (x : X) (xs : List X) {before after : Kept}
      → AddsAny O P (map TypeName (optional_mention of_type)) before after → AddsAny O P (type_parts (map (typed_as mention of_type) (x ∷ xs))) before after
  group_types mention of_type x xs h =
      Adds-mapped O P TypeName (optional_mention of_type) (flat_map type_of (map (typed_as mention of_type) (x ∷ xs)))
      (types_all mention of_type x xs) (types_within mention of_type (x ∷ xs)) h

  -- the same of a group of variables
  pub variable_group : (g : VariableGroup) {before after : Kept} → (g.variables ≡ [] → ⊥)
      → AddsAny O P (map TypeName (optional_mention g.of_type)) before after → AddsAny O P (variable_group_parts g) before after
  variable_group g {before} {after} some h = by g.variables some
    where
      by : (xs : List words.Variable) → (xs ≡ [] → ⊥) → AddsAny O P (variable_group_parts (record { variables = xs; of_type = g.of_type })) before after
      by [] some = absurd (some refl)
      by (x ∷ xs) some = Adds-list O P (ap type_parts (sym (append-nil (map (typed_as variable_mention g.of_type) (x ∷ xs))))) (group_types variable_mention g.of_type x xs h)

  -- the same of a group of names
  pub name_group : (g : NameGroup) {before after : Kept} → (g.names ≡ [] → ⊥)
      → AddsAny O P (map TypeName (optional_mention g.of_type)) before after → AddsAny O P (name_group_parts g) before after
  name_group g {before} {after} some h = by g.names some
    where
      by : (xs : List Name) → (xs ≡ [] → ⊥) → AddsAny O P (name_group_parts (record { names = xs; of_type = g.of_type })) before after
      by [] some = absurd (some refl)
      by (x ∷ xs) some = Adds-list O P (ap type_parts (sym (append-nil (map (typed_as mention_of g.of_type) (x ∷ xs))))) (group_types mention_of g.of_type x xs h)

-- the types of two lists have to fit, one list after the other
type_parts-append : (xs ys : List Typed) → type_parts (xs ++ ys) ≡ type_parts xs ++ type_parts ys
type_parts-append xs ys = ap (map TypeName) (flat_map-append type_of xs ys) ∙ map-append TypeName (flat_map type_of xs) (flat_map type_of ys)

-- the types of joined lists have to fit, list by list
pub type_parts-flat : {X : Type 0} (of : X → List Typed) (xs : List X) → type_parts (flat_map of xs) ≡ flat_map (λ x. type_parts (of x)) xs
type_parts-flat of [] = refl
type_parts-flat of (x ∷ xs) = type_parts-append (of x) (flat_map of xs) ∙ ap (λ l. type_parts (of x) ++ l) (type_parts-flat of xs)

-- an empty list after each changes nothing
single_group : {X : Type 0} (of : X → List Typed) (xs : List X) → flat_map (λ x. type_parts (of x ++ [])) xs ≡ flat_map (λ x. type_parts (of x)) xs
single_group of [] = refl
single_group of (x ∷ xs) = λ i. type_parts (append-nil (of x) i) ++ single_group of xs i

-- the types of groups of variables are those of the typed list
pub variable_groups : (gs : List VariableGroup) → flat_map variable_group_parts gs ≡ type_parts (typed_variables gs)
variable_groups gs =
    let of : VariableGroup → List Typed = λ g. map (typed_as variable_mention g.of_type) g.variables in single_group of gs ∙ sym (type_parts-flat of gs)

-- the types of groups of names are those of the typed list
pub name_groups : (gs : List NameGroup) → flat_map name_group_parts gs ≡ type_parts (typed_names gs)
name_groups gs =
    let of : NameGroup → List Typed = λ g. map (typed_as mention_of g.of_type) g.names in single_group of gs ∙ sym (type_parts-flat of gs)
