-- The names of the task of a pair that fits together differ.
use Rattle.std.proofs.Common.{◌≡◌, Bool, true, false, cond, List, [], ◌∷◌, ◌++◌, map, inl, inr, sym, refl, ap, ap₂, ◌∙◌, subst}
use Rattle.std.specs.List.{AllZip, fold, list_any}
use Rattle.std.proofs.lemmas.Bool.{both_ways}
use Rattle.std.proofs.lemmas.List.Elements.{Contains-append_cases}
use Rattle.std.proofs.lemmas.Simd.{map-map}
use Rattle.htn_model.specs.PlanFile as file
use Rattle.htn_model.specs.PlanFile.{IsWithoutRepeats}
use Rattle.htn_model.specs.Task as model
use Rattle.htn_model.specs.Task.{HasDistinctNames, Task}
use Rattle.hddl_words.specs.declared.domain.MethodText.{MethodText}
use Rattle.hddl_words.specs.declared.domain.DomainText.{DomainText}
use Rattle.hddl_words.specs.declared.problem.ProblemText.{ProblemText}
use Rattle.hddl_meaning.specs.Mentions.{IsIn, Text, folded, mentions_of, texts}
use Rattle.hddl_meaning.specs.Names as names
use Rattle.hddl_meaning.specs.Names.{distinct, is_same_text, object, object_declarations, type_mentions, with_name}
use Rattle.hddl_meaning.specs.Items.{IsWellTypedPair}
use Rattle.hddl_meaning.specs.Building.{IsMethodOf, IsTaskOf, Vocabulary, action_of, compound_of, predicate_of, vocabulary_of}
use Rattle.hddl_meaning.proofs.Listed.{AreDifferent, at_head, at_tail, found, in_cases, in_nothing}
use Rattle.hddl_meaning.proofs.Unique.{methods_differ, predicates_differ, tasks_differ}

-- ## Each text once

-- a new text after different ones
different_push : (ts : List Text) (t : Text) → AreDifferent ts → (IsIn t ts → ⊥) → AreDifferent (ts ++ t ∷ [])
different_push [] t different new = (λ h. in_nothing t h, tt)
different_push (u ∷ ts) t different new = (
  λ h.
      elim (Contains-append_cases ts (t ∷ []) u h) [
        | inl before ↦ different.0 before
        | inr last ↦ elim (in_cases t u [] last) [ inl e ↦ new (subst (λ x. IsIn t (x ∷ ts)) e (at_head t ts)) | inr none ↦ in_nothing u none ]
      ],
  different_push ts t different.1 (λ h. new (at_tail u t ts h)),
)

-- one more text, unless it is there
different_with : (ts : List Text) (t : Text) → AreDifferent ts → AreDifferent (with_name ts t)
different_with ts t different = by (list_any (is_same_text t) ts) refl
  where
    by : (b : Bool) → list_any (is_same_text t) ts ≡ b → AreDifferent (cond b ts (ts ++ t ∷ []))
    by true e = different
    by false e = different_push ts t different (λ h. both_ways (list_any (is_same_text t) ts) e (found t ts h))

-- and many
different_fold : (ts us : List Text) → AreDifferent ts → AreDifferent (fold with_name ts us)
different_fold ts [] different = different
different_fold ts (u ∷ us) different = different_fold (with_name ts u) us (different_with ts u different)

-- ## As names of a task

-- a name among others is among them as texts
as_member : (t : Text) (ts : List Text) → file.IsIn t ts → IsIn t ts
as_member t [] h = absurd h
as_member t (u ∷ ts) (inl e) = subst (λ x. IsIn t (x ∷ ts)) e (at_head t ts)
as_member t (u ∷ ts) (inr later) = at_tail u t ts (as_member t ts later)

-- different texts are names without repeats
without_repeats : (ts : List Text) → AreDifferent ts → IsWithoutRepeats ts
without_repeats [] different = tt
without_repeats (t ∷ ts) different = (λ h. different.0 (as_member t ts h), without_repeats ts different.1)

-- texts that are made distinct don't repeat
distinct_apart : (ts : List Text) → IsWithoutRepeats (distinct ts)
distinct_apart ts = without_repeats (distinct ts) (different_fold [] ts tt)

-- methods have the names of those that are written
methods_named : (v : Vocabulary) (xs : List MethodText) (ms : List model.MethodSchema) → AllZip (IsMethodOf v) xs ms → map (λ m. m.name) ms ≡ map (λ x. folded x.name.text) xs
methods_named v [] [] all = refl
methods_named v [] (m ∷ ms) all = absurd all
methods_named v (x ∷ xs) [] all = absurd all
methods_named v (x ∷ xs) (m ∷ ms) all = ap₂ (λ n ns. n ∷ ns) all.0.name (methods_named v xs ms all.1)

-- ## The task of a pair

module _ (d : DomainText) (p : ProblemText) (t : Task) (is : IsTaskOf d p t) where
  -- predicates have the names of those that are written
  predicates_named : model.predicate_names t ≡ names.predicate_names d
  predicates_named = ap (map (λ x. x.name)) is.predicates ∙ map-map (λ x. x.name) (predicate_of (vocabulary_of d p)) d.predicates

  -- and so do compound tasks and actions
  tasks_named : model.task_names t ≡ names.task_names d
  tasks_named =
      ap₂ (λ xs ys. map (λ x. x.name) xs ++ map (λ a. a.name) ys) is.tasks is.actions
      ∙ ap₂ ◌++◌ (map-map (λ x. x.name) (compound_of (vocabulary_of d p)) d.tasks) (map-map (λ a. a.name) (action_of (vocabulary_of d p)) d.actions)

  -- the names of each kind differ
  pub names_apart : IsWellTypedPair d p → HasDistinctNames t
  names_apart fits = record {
    objects = subst IsWithoutRepeats (sym is.objects) (distinct_apart (texts (mentions_of (object_declarations d p))));
    types = subst IsWithoutRepeats (sym is.types) (distinct_apart (object ∷ texts (type_mentions d)));
    predicates = without_repeats (model.predicate_names t) (subst AreDifferent (sym predicates_named) (predicates_differ d p fits));
    tasks = without_repeats (model.task_names t) (subst AreDifferent (sym tasks_named) (tasks_differ d p fits));
    methods = without_repeats (model.method_names t) (subst AreDifferent (sym (methods_named (vocabulary_of d p) d.methods t.methods is.methods)) (methods_differ d p fits));
  }
