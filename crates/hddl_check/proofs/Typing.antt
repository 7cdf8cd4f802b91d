-- Where no item of the types and the limits fails, all types that are named are declared, and the objects are known.
use Rattle.std.proofs.Common.{◌≡◌, ℕ, ◌+◌, ◌≤◌, Bool, true, false, cond, List, [], ◌∷◌, ◌++◌, length, Option, Some, None, is_some, inl, inr, refl, sym, ap, subst, ◌∙◌, arith, true≢false, append_assoc, append-nil}
use Rattle.std.specs.List.{flat_map, list_any, position}
use Rattle.std.proofs.lemmas.Bool.{cases_order}
use Rattle.std.proofs.lemmas.List.{length_push, map-append}
use Rattle.std.proofs.lemmas.List.Elements.{Contains-append_cases}
use Rattle.hddl_words.specs.declared.domain.DomainText.{DomainText}
use Rattle.hddl_words.specs.declared.problem.ProblemText.{ProblemText}
use Rattle.hddl_meaning.specs.Mentions.{Text, Mention, Typed, IsIn, mentions_of, texts, typed_names, typed_variables}
use Rattle.hddl_meaning.specs.Names.{distinct, is_same_text, object_names, type_names, with_name}
use Rattle.hddl_meaning.specs.Types.{text_or_object}
use Rattle.hddl_meaning.specs.Uses.{Schema}
use Rattle.hddl_meaning.specs.Items.{IsDeclaredType, IsTooMany, IsUnknownType, declared_objects, schemas_in, type_of, type_uses}
use Rattle.hddl_meaning.specs.declared.fault.Source.{Source}
use Rattle.hddl_meaning.specs.declared.fault.Source.TheVariants as source
use Rattle.hddl_meaning.specs.declared.fault.At.{At}
use Rattle.hddl_meaning.proofs.Listed.{at_head, distinct_push, in_distinct, in_flat_map, in_left}
use Rattle.hddl_uses.specs.Known.{AreKnown, IsTyped}
use Rattle.hddl_scope.specs.Repeats.{IsPastAfter}
use Rattle.hddl_uses.proofs.TypeNames.{is_type_number}

-- ## Names within the limit

-- one more name, which isn't past the limit
one_more : (first : List Mention) (m : Mention) → length (distinct (texts first)) ≤ 65535
    → ((IsIn m.text (texts first) → ⊥) → length (distinct (texts first)) ≡ 65535 → ⊥) → length (distinct (texts (first ++ m ∷ []))) ≤ 65535
one_more first m low none = subst (λ (xs : List Text). length xs ≤ 65535) (sym grown) (by (list_any (is_same_text m.text) names) refl)
  where
    names : List Text
    names = distinct (texts first)

    grown : distinct (texts (first ++ m ∷ [])) ≡ with_name (distinct (texts first)) m.text
    grown = ap distinct (map-append (λ m. m.text) first (m ∷ [])) ∙ distinct_push (texts first) m.text

    by : (b : Bool) → list_any (is_same_text m.text) (distinct (texts first)) ≡ b
        → length (cond b (distinct (texts first)) (distinct (texts first) ++ m.text ∷ [])) ≤ 65535
    by true e = low
    by false e =
        let long : length (distinct (texts first) ++ m.text ∷ []) ≡ length (distinct (texts first)) + 1 = length_push (distinct (texts first)) m.text in
        elim (cases_order (length (distinct (texts first))) 65535) [
          | inl full ↦ absurd (none (λ at. true≢false (sym (in_distinct (texts first) m.text at) ∙ e)) full)
          | inr (inl below) ↦ omega (arith, long, below)
          | inr (inr above) ↦ absurd (omega (arith, low, above))
        ]

-- where no mention is past the limit, there are no more names
few_after : (first ms : List Mention) → length (distinct (texts first)) ≤ 65535 → ((place : ℕ) → IsPastAfter first ms place → ⊥)
    → length (distinct (texts (first ++ ms))) ≤ 65535
few_after first [] low none = subst (λ (l : List Mention). length (distinct (texts l)) ≤ 65535) (sym (append-nil first)) low
few_after first (m ∷ ms) low none =
    let count : List Mention → ℕ = λ l. length (distinct (texts l)) in
    let next = one_more first m low
    (λ new full. none m.place (
      [],
      m,
      ms,
      refl,
      ap count (append-nil first) ∙ full,
      (λ at. new (subst (λ (l : List Mention). IsIn m.text (texts l)) (append-nil first) at)),
      refl,
    )) in
    subst (λ (l : List Mention). length (distinct (texts l)) ≤ 65535) (append_assoc first (m ∷ []) ms)
    (few_after (first ++ m ∷ []) ms next (λ place (before, second, after, cut, full, new, at). none place (
      m ∷ before,
      second,
      after,
      ap (λ l. m ∷ l) cut,
      ap count (sym (append_assoc first (m ∷ []) before)) ∙ full,
      (λ h. new (subst (λ (l : List Mention). IsIn second.text (texts l)) (sym (append_assoc first (m ∷ []) before)) h)),
      at,
    )))

-- ## Types

module _ (d : DomainText) (p : ProblemText) (types : (at : At) → IsUnknownType d p at → ⊥) where
  -- a type that a text uses is declared
  declared_type : (text : Source) (m : Mention) → IsIn m (type_uses d p text) → IsDeclaredType d m.text
  declared_type text m at = by (is_some (position (is_same_text m.text) (type_names d))) refl
    where
      by : (b : Bool) → is_some (position (is_same_text m.text) (type_names d)) ≡ b → IsDeclaredType d m.text
      by true e = (is_type_number d m.text).0 e
      by false e =
          absurd (types (record { source = text; place = m.place }) (m, at, (λ h. true≢false (sym ((is_type_number d m.text).1 h) ∙ e)), refl))

  -- a name whose type, if it has one, is declared is of a declared type
  typed_by : (mention : Mention) (o : Option Mention)
      → ((m : Mention) → IsIn m (type_of (record { mention = mention; of_type = o })) → IsDeclaredType d m.text) → IsDeclaredType d (text_or_object o)
  typed_by mention None f = inl refl
  typed_by mention (Some m) f = f m (at_head m [])

  -- the parameters of predicates and of compound tasks
  abbrev declared_parameters : Source → List Typed
  declared_parameters source.Domain =
      flat_map (λ x. typed_variables x.parameters) d.predicates ++ flat_map (λ x. typed_variables x.parameters) d.tasks
  declared_parameters source.Problem = []

  -- the typed variables of a schema, its parameters first
  abbrev typed_of : Schema → List Typed
  typed_of s = typed_variables s.parameters ++ flat_map (λ q. typed_variables q.own) s.quantifiers

  -- what is typed before the schemas: objects and declared parameters
  abbrev before_schemas : Source → List Typed
  before_schemas text = declared_objects d p text ++ declared_parameters text

  -- all that may have a type
  abbrev named_in : Source → List Typed
  named_in text = before_schemas text ++ flat_map typed_of (schemas_in d p text)

  -- the types of what is typed in a text are those that it uses
  named_types : (text : Source) → flat_map type_of (named_in text) ≡ type_uses d p text
  named_types source.Domain = refl
  named_types source.Problem = refl

  -- all that is typed in a text has a declared type
  all_typed : (text : Source) (t : Typed) → IsIn t (named_in text) → IsTyped d t
  all_typed text t at =
      typed_by t.mention t.of_type (λ m is. declared_type text m (subst (IsIn m) (named_types text) (in_flat_map type_of t m (named_in text) at is)))

  -- each object of a text has a declared type
  object_typed : (text : Source) (t : Typed) → IsIn t (declared_objects d p text) → IsTyped d t
  object_typed text t at =
      all_typed text t
      (in_left t (before_schemas text) (flat_map typed_of (schemas_in d p text)) (in_left t (declared_objects d p text) (declared_parameters text) at))

  -- ### The objects are known

  module _ (many : (at : At) → IsTooMany d p at → ⊥) where
    -- the mentions of a text's objects
    abbrev object_mentions : Source → List Mention
    object_mentions text = mentions_of (declared_objects d p text)

    -- the constants are few enough
    few_constants : length (distinct (texts (object_mentions source.Domain))) ≤ 65535
    few_constants =
        few_after [] (object_mentions source.Domain) (omega arith)
        (λ place past. many (record { source = source.Domain; place = place }) (inr (inl past)))

    -- the objects are few enough
    few_objects : length (object_names d p) ≤ 65535
    few_objects =
        subst (λ (l : List Mention). length (distinct (texts l)) ≤ 65535) (sym (map-append (λ t. t.mention) (typed_names d.constants) (typed_names p.objects)))
        (few_after (object_mentions source.Domain) (object_mentions source.Problem) few_constants
        (λ place past. many (record { source = source.Problem; place = place }) (inr (inl past))))

    -- the objects are known
    pub objects_known : AreKnown d p
    objects_known = record {
      typed = λ t at. elim (Contains-append_cases (typed_names d.constants) (typed_names p.objects) t at) [
        | inl i ↦ object_typed source.Domain t i
        | inr i ↦ object_typed source.Problem t i
      ];
      few = let few = few_objects in omega (arith, few);
    }
