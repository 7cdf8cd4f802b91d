-- What is offered for what stands at a place may be meant there.
use Rattle.std.proofs.Common.{◌≡◌, ℕ, ◌⊎◌, inl, inr, List, [], ◌∷◌, ◌++◌, get_or, refl, sym, subst}
use Rattle.std.specs.List.{All}
use Rattle.std.proofs.lemmas.List.Elements.{All-contains, Contains-append_cases}
use Rattle.hddl_words.specs.declared.domain.DomainText.{DomainText}
use Rattle.hddl_words.specs.declared.problem.ProblemText.{ProblemText}
use Rattle.hddl_meaning.specs.Mentions.{IsIn, Text, folded, texts}
use Rattle.hddl_meaning.specs.Names.{distinct, object, type_mentions, type_names}
use Rattle.hddl_meaning.specs.Uses as uses
use Rattle.hddl_meaning.specs.Uses.{Schema, TermUse}
use Rattle.hddl_meaning.specs.Items.{arguments_of}
use Rattle.hddl_meaning.specs.declared.fault.At.{At}
use Rattle.hddl_meaning.proofs.Listed.{at_head, at_tail, distinct_push, in_cases, in_flat_map, in_left, in_map, in_nothing, in_right}
use Rattle.hddl_names.proofs.Texts.{distinct-from, distinct-has}
use Rattle.pair_messages.specs.declared.stands.Kind.{Kind}
use Rattle.pair_messages.specs.declared.stands.Kind.TheVariants as kind
use Rattle.pair_messages.specs.declared.stands.Stand.{Stand}
use Rattle.pair_messages.specs.declared.stands.Stand.TheVariants as stand
use Rattle.pair_messages.specs.Known.{known_types}
use Rattle.pair_messages.specs.Offers.{AreNearest, AreWritten, IsForStand, IsForTerm, IsForUse, IsNearest, nearest_in}
use Rattle.pair_messages.specs.Stands.{StandsAt, in_force, use_of, uses_of_kind}
use Rattle.pair_messages.proofs.Nearest.{nearest_are, nearest_same, nearest_written, slice_got}

-- a use of any kind is one of all uses of a schema
of_any_kind : (s : Schema) (k : Kind) (u : uses.Use) → IsIn u (uses_of_kind k s) → IsIn u (s.atoms ++ s.decomposed ++ s.subtasks)
of_any_kind s kind.Predicate u at = in_left u (s.atoms ++ s.decomposed) s.subtasks (in_left u s.atoms s.decomposed at)
of_any_kind s kind.Compound u at = in_left u (s.atoms ++ s.decomposed) s.subtasks (in_right u s.atoms s.decomposed at)
of_any_kind s kind.Task u at = in_right u (s.atoms ++ s.decomposed) s.subtasks at

-- a name for what stands at the place is one for a use or a term there
pub for_stand : (d : DomainText) (p : ProblemText) (at : At) (found : Stand) (name : List ℕ) → StandsAt d p at found → IsForStand d p found name → IsForUse d p at name ⊎ IsForTerm d p at name
for_stand d p at (stand.Name u) name (s, here, st) h = inl (s, u.kind, use_of u, here, st.0, st.1, h)
for_stand d p at (stand.Argument u position) name (s, here, st) (t, is, h) =
    let tu : TermUse = record { variables = in_force u.scope; term = t } in
    inr (
      s,
      tu,
      here,
      in_left tu _ s.sides (in_flat_map arguments_of (use_of u) tu (s.atoms ++ s.decomposed ++ s.subtasks) (of_any_kind s u.kind (use_of u) st.0)
          (in_map (λ x. record { variables = in_force u.scope; term = x }) t u.atom.now.terms (slice_got u.atom.now.terms position t is))),
      st.1 t is,
      h,
    )
for_stand d p at (stand.Side scope t) name (s, here, st) h =
    let tu : TermUse = record { variables = in_force scope; term = t.now } in
    inr (s, tu, here, in_right tu _ s.sides st.0, st.1, h)

-- ## Names in lower case

module _ (word : List ℕ) (names others : List Text) (to : (t : Text) → IsIn t names → IsIn t others) (from : (t : Text) → IsIn t others → IsIn t names) where
  -- those that are found are the nearest, also of others that are the same
  pub found_are : AreNearest word others (nearest_in word names)
  found_are = λ k d lt name same.
      let (at, is) = nearest_are word names k d lt in
      nearest_same word names others name to from (nearest_written word names (get_or (nearest_in word names) k d) name at is same)

-- what is written for one of the nearest is one of them
pub written_are : (word : List ℕ) (all these : List Text) (names : List (List ℕ)) → AreNearest word all these → AreWritten these names → All (IsNearest word all) names
written_are word all these names near written = λ k d lt.
    All-contains (λ text. (name : List ℕ) → folded name ≡ text → IsNearest word all name) these (folded (get_or names k d)) near (written k d lt) (get_or names k d) refl

module _ (d : DomainText) where
  abbrev named : List Text
  named = texts (type_mentions d)

  is_distinct : known_types d ≡ distinct (named ++ object ∷ [])
  is_distinct = sym (distinct_push named object)

  -- the types that are known are those of the domain
  pub known_are : (t : Text) → IsIn t (known_types d) → IsIn t (type_names d)
  known_are t at = distinct-has (object ∷ named) t (elim (Contains-append_cases named (object ∷ []) t (distinct-from (named ++ object ∷ []) t (subst (IsIn t) is_distinct at))) [
    | inl here ↦ at_tail object t named here
    | inr last ↦ elim (in_cases object t [] last) [
      | inl is ↦ subst (λ z. IsIn z (object ∷ named)) is (at_head object named)
      | inr none ↦ absurd (in_nothing t none)
    ]
  ])

  pub types_are : (t : Text) → IsIn t (type_names d) → IsIn t (known_types d)
  types_are t at = subst (IsIn t) (sym is_distinct) (distinct-has (named ++ object ∷ []) t (elim (in_cases object t named (distinct-from (object ∷ named) t at)) [
    | inl is ↦ in_right t named (object ∷ []) (subst (λ z. IsIn z (object ∷ [])) is (at_head object []))
    | inr here ↦ in_left t named (object ∷ []) here
  ]))
