-- Whether the types of constants and objects are declared.
use Rattle.std.proofs.Common.{◌≡◌, ℕ, ◌+◌, ◌<◌, true, false, List, [], ◌∷◌, length, map, take, get_or, Option, is_some, true≢false, inl, inr, option_map, refl, sym, ap, subst, ◌∙◌}
use Rattle.std.specs.List.{position}
use Rattle.std.proofs.lemmas.List.Elements.{Contains-append_cases}
use Rattle.hddl_words.specs.Names.{Name}
use Rattle.hddl_words.specs.declared.term.NameGroup.{NameGroup}
use Rattle.hddl_words.specs.declared.domain.DomainText.{DomainText}
use Rattle.hddl_words.specs.declared.problem.ProblemText.{ProblemText}
use Rattle.hddl_meaning.specs.Mentions.{Text, Typed, IsIn, mention_of, typed_names}
use Rattle.hddl_meaning.specs.Names.{is_same_text, type_names}
use Rattle.hddl_meaning.specs.Types.{text_or_object}
use Rattle.hddl_meaning.specs.Items.{IsDeclaredType}
use Rattle.hddl_meaning.proofs.Listed.{at_head, in_cases, in_flat_map, in_left, in_nothing, in_right}
use Rattle.hddl_names.specs.Members.{AreTyped}
use Rattle.hddl_uses.specs.Known.{AllTyped, IsTyped}
use Rattle.hddl_scope.proofs.Cuts.{flat_more}
use Rattle.hddl_uses.proofs.TypeNames.{is_type_number}

-- ## A type by its number

-- a type with a number is declared
pub declared_type : (d : DomainText) (t : Text) (o : Option ℕ) → o ≡ position (is_same_text t) (type_names d) → is_some o ≡ true → IsDeclaredType d t
declared_type d t o e some = (is_type_number d t).0 (sym (ap is_some e) ∙ some)

-- a type without a number isn't declared
pub undeclared_type : (d : DomainText) (t : Text) (o : Option ℕ) → o ≡ position (is_same_text t) (type_names d) → is_some o ≡ false → IsDeclaredType d t → ⊥
undeclared_type d t o e none h = true≢false (sym (ap is_some e ∙ (is_type_number d t).1 h) ∙ none)

-- ## Group by group

module _ (of_type : Option Name) where
  -- a name of the group with the group's type
  abbrev typed_name : Name → Typed
  typed_name x = record { mention = mention_of x; of_type = option_map mention_of of_type }

  -- where the type of a group is declared, each of its names has a declared type
  typed_all : (d : DomainText) (xs : List Name) → IsDeclaredType d (text_or_object (option_map mention_of of_type)) → AllTyped d (map typed_name xs)
  typed_all d [] declared t at = absurd (in_nothing t at)
  typed_all d (x ∷ xs) declared t at = elim (in_cases (typed_name x) t (map typed_name xs) at) [
    | inl is ↦ subst (IsTyped d) is declared
    | inr rest ↦ typed_all d xs declared t rest
  ]

-- the names of a group with its type
abbrev pub of_group : NameGroup → List Typed
of_group g = map (typed_name g.of_type) g.names

-- the same of a whole group
pub group_typed : (d : DomainText) (g : NameGroup) → IsDeclaredType d (text_or_object (option_map mention_of g.of_type)) → AllTyped d (of_group g)
group_typed d g declared = typed_all g.of_type d g.names declared

-- a group without names has none without a declared type
pub empty_typed : (d : DomainText) (g : NameGroup) → g.names ≡ [] → AllTyped d (of_group g)
empty_typed d g e t at = absurd (in_nothing t (subst (λ xs. IsIn t (map (typed_name g.of_type) xs)) e at))

-- the step of a loop over groups
pub typed_next : (d : DomainText) (gs : List NameGroup) (k : ℕ) (g : NameGroup) → k < length gs → g ≡ get_or gs k g
    → AllTyped d (typed_names (take k gs)) → AllTyped d (of_group g) → AllTyped d (typed_names (take (k + 1) gs))
typed_next d gs k g lt is before here t at =
    elim (Contains-append_cases (typed_names (take k gs)) (of_group g) t (subst (IsIn t) (flat_more of_group gs k g lt is) at)) [
      | inl old ↦ before t old
      | inr new ↦ here t new
    ]

-- the type of a group that has names
pub type_of_group : (d : DomainText) (gs : List NameGroup) (k : ℕ) (g : NameGroup) → k < length gs → g ≡ get_or gs k g → (g.names ≡ [] → ⊥)
    → AllTyped d (typed_names gs) → IsDeclaredType d (text_or_object (option_map mention_of g.of_type))
type_of_group d gs k g lt is some all = by g.names refl
  where
    by : (xs : List Name) → g.names ≡ xs → IsDeclaredType d (text_or_object (option_map mention_of g.of_type))
    by [] e = absurd (some e)
    by (x ∷ xs) e =
        let t : Typed = typed_name g.of_type x in
        all t
        (in_flat_map of_group g t gs (k, lt, sym is)
        (subst (λ xs. IsIn t (map (typed_name g.of_type) xs)) (sym e) (at_head t (map (typed_name g.of_type) xs))))

-- ## Constants and objects

-- where all is typed, the constants are
pub typed_constants : (d : DomainText) (p : ProblemText) → AreTyped d p → AllTyped d (typed_names d.constants)
typed_constants d p all t at = all t (in_left t (typed_names d.constants) (typed_names p.objects) at)

-- where all is typed, the objects are
pub typed_objects : (d : DomainText) (p : ProblemText) → AreTyped d p → AllTyped d (typed_names p.objects)
typed_objects d p all t at = all t (in_right t (typed_names d.constants) (typed_names p.objects) at)

-- where constants and objects are typed, all is
pub typed_both : (d : DomainText) (p : ProblemText) → AllTyped d (typed_names d.constants) → AllTyped d (typed_names p.objects) → AreTyped d p
typed_both d p constants objects t at = elim (Contains-append_cases (typed_names d.constants) (typed_names p.objects) t at) [
  | inl first ↦ constants t first
  | inr second ↦ objects t second
]
