-- The pairs of positions that orderings give, and names that no subtask has.
use Rattle.std.proofs.Common.{◌≡◌, ℕ, ◌<◌, Bool, List, [], ◌∷◌, ◌++◌, Some, None, Option, is_some, length, arith, ap, refl, sym, ◌∙◌, inl, inr, subst, cond, nat_lt, true, false, true≢false, zero, suc, ◌||◌}
use borrow.Author.Tests.{ltb-true}
use Rattle.std.specs.List.{All, flat_map, list_any, position, position_or_len}
use Rattle.std.proofs.lemmas.List.Elements.{All-append}
use Rattle.htn_order.specs.Closure.{AreBelow}
use Rattle.hddl_words.specs.Names.{Name}
use Rattle.hddl_words.specs.declared.network.NetworkText.{NetworkText}
use Rattle.hddl_words.specs.declared.network.SubtaskText.{SubtaskText}
use Rattle.hddl_meaning.specs.declared.fault.Source.{Source}
use Rattle.hddl_meaning.specs.declared.fault.CheckFault.{CheckFault}
use Rattle.hddl_meaning.specs.declared.fault.CheckFault.TheVariants.{UnknownSubtask}
use Rattle.hddl_meaning.specs.Mentions.{Text, IsIn, folded, texts}
use Rattle.hddl_meaning.specs.Names.{is_same_text, optional_mention}
use Rattle.hddl_meaning.specs.Networks.{is_text, labelled, pair_of, written_pairs}
use Rattle.hddl_meaning.specs.Items.{label_mentions}
use Rattle.hddl_meaning.proofs.Listed.{at_head, at_tail, in_cases, in_nothing, texts_decide}
use Rattle.hddl_scope.specs.Findings.{Adds, AddsAny, Kept}
use Rattle.hddl_uses.specs.Labels.{IsNumbering, IsUnknownLabel, names_of, pairs_of}
use Rattle.hddl_scope.specs.Numbers.{Entries, number_at}
use Rattle.hddl_scope.specs.Findings.{Faulted}
use Rattle.hddl_uses.specs.Parts.{HasUnknownLabel}
use Rattle.hddl_scope.proofs.Adding.{Adds-same}
use Rattle.hddl_scope.proofs.Finding.{none_from}
use Rattle.hddl_scope.proofs.Positions.{has_position}

-- ## Pairs

-- what holds of each list's values holds of all joined
all_flat : {X Y : Type 0} (P : Y → Type 0) (f : X → List Y) (xs : List X) → ((x : X) → All P (f x)) → All P (flat_map f xs)
all_flat P f [] each = λ k d h. absurd (omega arith)
all_flat P f (x ∷ xs) each = All-append P (f x) (flat_map f xs) (each x) (all_flat P f xs each)

-- a position is below the length
position_below : {X : Type 0} (p : X → Bool) (xs : List X) (k : ℕ) → position p xs ≡ Some k → k < length xs
position_below p xs k e = by (nat_lt (position_or_len p xs) (length xs)) refl e
  where
    by : (b : Bool) → nat_lt (position_or_len p xs) (length xs) ≡ b → cond b (Some (position_or_len p xs)) None ≡ Some k → k < length xs
    by true test found = let same : position_or_len p xs ≡ k = cc in rw (← same) (ltb-true _ _ test)
    by false test found = absurd cc

-- a pair of numbers below n is below n
one_below : (n a b : ℕ) → a < n → b < n → AreBelow n ((a, b) ∷ [])
one_below n a b h j zero d k = (h, j)
one_below n a b h j (suc i) d k = absurd (omega arith)

-- no pairs are below n
none_below : (n : ℕ) → AreBelow n []
none_below n k d h = absurd (omega arith)

-- a pair that is there only if both numbers are is below n if they are
pair_below : (n : ℕ) (a b : Option ℕ) → ((k : ℕ) → a ≡ Some k → k < n) → ((k : ℕ) → b ≡ Some k → k < n) → AreBelow n (pair_of a b)
pair_below n (Some x) (Some y) a b = one_below n x y (a x refl) (b y refl)
pair_below n (Some x) None a b = none_below n
pair_below n None y a b = none_below n

-- the written orderings pair positions of subtasks
pub written_below : (n : NetworkText) → AreBelow (length n.subtasks) (written_pairs n)
written_below n =
    all_flat (λ p. (p.0 < length n.subtasks) × (p.1 < length n.subtasks)) (λ o. pair_of (labelled n o.before) (labelled n o.after)) n.orderings
    (λ o. pair_below (length n.subtasks) (labelled n o.before) (labelled n o.after) (λ k e. position_below (λ (s : SubtaskText). is_text (folded o.before.text) s.label) n.subtasks k e)
    (λ k e. position_below (λ (s : SubtaskText). is_text (folded o.after.text) s.label) n.subtasks k e))

-- the pairs by the numbers of labels are the written ones
pub written : (n : NetworkText) (numbers : Entries) → IsNumbering n numbers → flat_map (pairs_of numbers) n.orderings ≡ written_pairs n
written n numbers number = λ i. flat_map (λ o. pair_of (number (folded o.before.text) i) (number (folded o.after.text) i)) n.orderings

-- ## Names

-- a text that some label has is among the labels
named : (t : Text) (subtasks : List SubtaskText) → list_any (λ s. is_text t s.label) subtasks ≡ true → IsIn t (texts (flat_map (λ s. optional_mention s.label) subtasks))
named t [] h = cc
named t (s ∷ ss) h = by s.label h (named t ss)
  where
    rest : List Text
    rest = texts (flat_map (λ s. optional_mention s.label) ss)

    told : (l : Name) (b : Bool) → is_same_text t (folded l.text) ≡ b → (b || list_any (λ s. is_text t s.label) ss) ≡ true
        → (list_any (λ s. is_text t s.label) ss ≡ true → IsIn t rest) → IsIn t (folded l.text ∷ rest)
    told l true same h later = subst (λ u. IsIn t (u ∷ rest)) ((texts_decide t (folded l.text)).0 same) (at_head t rest)
    told l false other h later = at_tail (folded l.text) t rest (later h)

    by : (label : Option Name) → (is_text t label || list_any (λ s. is_text t s.label) ss) ≡ true
        → (list_any (λ s. is_text t s.label) ss ≡ true → IsIn t rest) → IsIn t (texts (optional_mention label ++ flat_map (λ s. optional_mention s.label) ss))
    by None h later = later h
    by (Some l) h later = told l (is_same_text t (folded l.text)) refl h later

-- a text among the labels is one that some label has
naming : (t : Text) (subtasks : List SubtaskText) → IsIn t (texts (flat_map (λ s. optional_mention s.label) subtasks)) → list_any (λ s. is_text t s.label) subtasks ≡ true
naming t [] h = absurd (in_nothing t h)
naming t (s ∷ ss) h = by s.label h (naming t ss)
  where
    rest : List Text
    rest = texts (flat_map (λ s. optional_mention s.label) ss)

    any : Bool
    any = list_any (λ s. is_text t s.label) ss

    or_right : (b : Bool) → any ≡ true → (b || any) ≡ true
    or_right true e = refl
    or_right false e = e

    by : (label : Option Name) → IsIn t (texts (optional_mention label ++ flat_map (λ s. optional_mention s.label) ss)) → (IsIn t rest → any ≡ true) → (is_text t label || any) ≡ true
    by None h later = later h
    by (Some l) h later = elim (in_cases (folded l.text) t rest h) [
      | inl is ↦ ap (λ b. b || any) ((texts_decide t (folded l.text)).1 (sym is))
      | inr more ↦ or_right (is_same_text t (folded l.text)) (later more)
    ]

module _ (n : NetworkText) (numbers : Entries) (number : IsNumbering n numbers) where
  -- a text has a number exactly where some label has it
  known : (t : Text) → is_some (number_at numbers t) ≡ list_any (λ s. is_text t s.label) n.subtasks
  known t = ap is_some (number t) ∙ has_position (λ (s : SubtaskText). is_text t s.label) n.subtasks

  -- a text without a number is no label
  missing : (t : Text) → number_at numbers t ≡ None → IsIn t (texts (label_mentions n)) → ⊥
  missing t none at = true≢false (sym (naming t n.subtasks at) ∙ sym (known t) ∙ ap is_some none)

  -- a text that is no label has no number
  none_there : (t : Text) → (IsIn t (texts (label_mentions n)) → ⊥) → number_at numbers t ≡ None
  none_there t gone = none_from (number_at numbers t) (by (list_any (λ s. is_text t s.label) n.subtasks) refl)
    where
      by : (b : Bool) → list_any (λ s. is_text t s.label) n.subtasks ≡ b → is_some (number_at numbers t) ≡ false
      by true some = absurd (gone (named t n.subtasks some))
      by false none = known t ∙ none

  -- names without numbers are those that no subtask has
  pub unknown_labels : (text : Source) {O : CheckFault → Type 0} {before after : Kept} → AddsAny (λ _ _. ⊥) (IsUnknownLabel text numbers) (flat_map names_of n.orderings) before after
      → Adds O (Faulted UnknownSubtask text (HasUnknownLabel n)) before after
  unknown_labels text =
      Adds-same (λ f (name, at, gone). absurd gone) (λ f (name, at, (place, is, (none, there))). (place, is, (name, at, (missing (folded name.text) none, there))))
      (λ f (place, is, (name, at, (gone, there))). (name, at, (place, is, (none_there (folded name.text) gone, there))))
