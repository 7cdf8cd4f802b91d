-- The small examples, computed.
use Rattle.std.proofs.Common.{◌≡◌, Bool, true, false, not, ◌&&◌, ◌||◌, List, [], ◌∷◌, refl, ap, ap₂, ◌∙◌}
use Rattle.std.specs.List.{list_all, list_any}
use Rattle.std.specs.List.Sorted.{IsStrictlySortedBy}
use Rattle.std.specs.declared.cmp.Ordering.TheVariants.{Less}
use Rattle.std.proofs.lemmas.Bool.{and_right}
use Rattle.htn_model.specs.Atom.{Atom, atom_cmp}
use Rattle.htn_model.specs.State.{contains, set_of}
use Rattle.htn_model.specs.Examples.{fact}
use Rattle.htn_model.proofs.Sets.{atoms_of-set_of, contains-set_of, is_same}
use Rattle.heuristics.specs.ReachExamples.{BlockedNodesStay, FactsAreApart, ReachedAreApart, changes, two_facts}
use Rattle.heuristics.specs.Facts.{has_effects, is_within}

-- no atoms ascend
none_ascend : IsStrictlySortedBy atom_cmp []
unfolding IsStrictlySortedBy
none_ascend = tt

-- one does
one_ascends : (a : Atom) → IsStrictlySortedBy atom_cmp (a ∷ [])
unfolding IsStrictlySortedBy
one_ascends a = (tt, tt)

-- so do two, the first before the second
two_ascend : (a b : Atom) → atom_cmp a b ≡ Less → IsStrictlySortedBy atom_cmp (a ∷ b ∷ [])
unfolding IsStrictlySortedBy
two_ascend a b less = ((less, tt), (tt, tt))

-- whether a set has all of some atoms, by its list
has_listed : (xs ys : List Atom) → list_all (contains (set_of xs)) ys ≡ list_all (λ q. list_any (is_same q) xs) ys
has_listed xs [] = refl
has_listed xs (y ∷ ys) = ap₂ (λ a b. a && b) (contains-set_of xs y) (has_listed xs ys)

-- whether a set is within facts, by the lists
shown_within : (may : Atom → Bool) (ys xs : List Atom) → IsStrictlySortedBy atom_cmp xs → IsStrictlySortedBy atom_cmp ys
    → is_within (record { may_hold = may; lasting = set_of ys }) (set_of xs) ≡ (list_all may xs && list_all (λ q. list_any (is_same q) xs) ys)
shown_within may ys xs ascending others =
    ap₂ (λ (us vs : List Atom). list_all may us && list_all (contains (set_of xs)) vs) (atoms_of-set_of xs ascending) (atoms_of-set_of ys others)
    ∙ ap (λ b. list_all may xs && b) (has_listed xs ys)

-- whether the deleted atoms may be false, by the lists
deleted_listed : (ys adds ds : List Atom) → list_all (λ x. not (contains (set_of ys) x) || contains (set_of adds) x) ds ≡ list_all (λ x. not (list_any (is_same x) ys) || list_any (is_same x) adds) ds
deleted_listed ys adds [] = refl
deleted_listed ys adds (d ∷ ds) = ap₂ (λ a b. a && b) (ap₂ (λ a b. not a || b) (contains-set_of ys d) (contains-set_of adds d)) (deleted_listed ys adds ds)

-- whether an action's effects are among facts, by the lists
shown_effects : (may : Atom → Bool) (ys ds adds : List Atom) → IsStrictlySortedBy atom_cmp ds → IsStrictlySortedBy atom_cmp adds
    → has_effects (record { may_hold = may; lasting = set_of ys }) (changes ds adds) ≡ (list_all may adds && list_all (λ x. not (list_any (is_same x) ys) || list_any (is_same x) adds) ds)
shown_effects may ys ds adds ascending others =
    ap₂ (λ (us vs : List Atom). list_all may us && list_all (λ x. not (contains (set_of ys) x) || contains (set_of adds) x) vs) (atoms_of-set_of adds others) (atoms_of-set_of ds ascending)
    ∙ ap (λ b. list_all may adds && b) (deleted_listed ys adds ds)

-- what is within the facts
pub facts_are_apart : FactsAreApart
facts_are_apart = record {
  least = shown_within two_facts.may_hold (fact 1 ∷ []) (fact 1 ∷ []) (one_ascends (fact 1)) (one_ascends (fact 1));
  most = shown_within two_facts.may_hold (fact 1 ∷ []) (fact 0 ∷ fact 1 ∷ []) (two_ascend (fact 0) (fact 1) refl) (one_ascends (fact 1));
  fallen = shown_within two_facts.may_hold (fact 1 ∷ []) (fact 0 ∷ []) (one_ascends (fact 0)) (one_ascends (fact 1));
  risen = shown_within two_facts.may_hold (fact 1 ∷ []) (fact 1 ∷ fact 2 ∷ []) (two_ascend (fact 1) (fact 2) refl) (one_ascends (fact 1));
  apart = ap (λ b. not b && true) (contains-set_of (fact 1 ∷ []) (fact 0));
  never_fails = ap (λ b. not b && true) (contains-set_of (fact 1 ∷ []) (fact 1));
  never_holds = refl;
  renews = shown_effects two_facts.may_hold (fact 1 ∷ []) (fact 0 ∷ fact 1 ∷ []) (fact 0 ∷ fact 1 ∷ []) (two_ascend (fact 0) (fact 1) refl) (two_ascend (fact 0) (fact 1) refl);
  deletes = shown_effects two_facts.may_hold (fact 1 ∷ []) (fact 1 ∷ []) (fact 0 ∷ []) (one_ascends (fact 1)) (one_ascends (fact 0));
  adds = shown_effects two_facts.may_hold (fact 1 ∷ []) [] (fact 2 ∷ []) none_ascend (one_ascends (fact 2));
}

-- what never ends
pub blocked_nodes_stay : BlockedNodesStay
blocked_nodes_stay = record {
  task_instances = refl;
  other_instance = refl;
  unknown_within = refl;
  blocked = λ s within. ap (λ b. not (b && true)) within;
  free = λ s. ap not (and_right (is_within two_facts s) false refl);
  beside_unknown = λ s. ap not (and_right (is_within two_facts s) false refl);
  elsewhere = λ s outside. ap (λ b. not (b && true)) outside;
  barred = λ s. refl;
  step = λ s within. ap₂ (λ b x. not (b && (not x || false))) within facts_are_apart.never_fails;
}

-- what may be reached
pub reached_are_apart : ReachedAreApart
reached_are_apart = record {
  known = λ s within. ap (λ b. b && true) within;
  unknown = λ s. and_right (is_within two_facts s) false refl;
  elsewhere = λ s outside. ap (λ b. b && true) outside;
  barred = λ s. refl;
  lost_blocked = refl;
  lost_barred = refl;
  free = refl;
}
