-- Sets of atoms by their members.
use Rattle.std.proofs.Common.{◌≡◌, ℕ, Bool, true, false, cond, not, ◌||◌, ◌&&◌, List, [], ◌∷◌, Some, None, Option, map, refl, sym, ap, subst, ◌∙◌, arith, T, Result, Ok, Err, length, ◌+◌, ⊎_elim, get_or}
use Rattle.std.specs.Prelude.{is_some, is_ok}
use Rattle.std.specs.List.{list_any, filter, dedup, AllByRecursion, AllWithin, Contains}
use Rattle.std.specs.List.Sorted.{IsStrictlySortedBy, IsSortedBy, IsSorted, IsPermutation, IsSearchInRange, IsBinarySearchResult}
use Rattle.std.specs.declared.cmp.Ordering.{Ordering}
use Rattle.std.specs.declared.cmp.Ordering.TheVariants.{Less, Greater}
use Rattle.std.specs.Ordering.{eq_by_cmp, is_lt, is_eq, ordering_reverse}
use Rattle.std.specs.Cmp.{tied_itself, tied_back, Equal-is, both_ways}
use Rattle.std.proofs.lemmas.List.Folds.{list_any_at, list_any_none, Any-from_list_any}
use Rattle.std.proofs.lemmas.List.Kept.{Contains-dedup, Contains-from_dedup, IsStrictlySortedBy-dedup, IsStrictlySortedBy-filter}
use Rattle.std.proofs.lemmas.List.Sorted.{list_any-IsPermutation, searchable_from_sorted}
use Rattle.std.proofs.lemmas.Map.Keys.{Less-from_sorted}
use Rattle.std.proofs.lemmas.Bool.{cases_lt}
use Rattle.htn_task.specs.Laws.{atom_cmp-matches}
use Rattle.std.specs.FinMap.{get-empty, get-insert, get-retain_keys, get-from_entries, get-from_sorted, contains_key-keys, same_map, from_sorted, entries-from_sorted, is_sorted, keys}
use Rattle.std.specs.FinMap.Entries.{below_all}
use Rattle.htn_model.specs.Atom.{Atom, atom_cmp, atom_eq}
use Rattle.htn_model.specs.State.{State, marked, set_of, contains, atoms_of, difference, with_atoms, union}
use Rattle.htn_task.specs.Merge.{merge, kept}
use Rattle.htn_model.specs.AtomOrder.{atom_cmp-total, atom_cmp-same, atom_eq-decides, atom_eq-laws, same_state}
use Rattle.htn_model.proofs.Sets.{atoms_of-set_of, contains-difference, contains-set_of, contains-union, is_same, same_as, set_of-atoms_of}
use Rattle.htn_task.proofs.Merged.{merge-members, merge-sorted}

-- ## effects

-- a filtered list has an atom exactly where the list has it and it is kept
filter_members : (keep : Atom → Bool) (q : Atom) (xs : List Atom) → list_any (is_same q) (filter keep xs) ≡ (list_any (is_same q) xs && keep q)
filter_members keep q [] = refl
filter_members keep q (x ∷ xs) =
    elim (keep x) as (λ b. keep x ≡ b → list_any (is_same q) (cond b (x ∷ filter keep xs) (filter keep xs)) ≡ ((is_same q x || list_any (is_same q) xs) && keep q)) [
      | true ↦ λ kept. ap (λ b. is_same q x || b) (filter_members keep q xs) ∙ kept_one (is_same q x) (list_any (is_same q) xs) (keep q) (λ e. ap keep (is q x e) ∙ kept)
      | false ↦ λ dropped. filter_members keep q xs ∙ dropped_one (is_same q x) (list_any (is_same q) xs) (keep q) (λ e. ap keep (is q x e) ∙ dropped)
    ] refl
  where
    is : (q x : Atom) → is_same q x ≡ true → q ≡ x
    is q x e = atom_cmp-same q x ((Equal-is (atom_cmp q x)).0 e)

    kept_one : (a b k : Bool) → (a ≡ true → k ≡ true) → (a || (b && k)) ≡ ((a || b) && k)
    kept_one true b k h = sym (h refl)
    kept_one false b k h = refl

    dropped_one : (a b k : Bool) → (a ≡ true → k ≡ false) → (b && k) ≡ ((a || b) && k)
    dropped_one true b k h = subst (λ v. (b && v) ≡ v) (sym (h refl)) (and-false b)
      where
        and-false : (b : Bool) → (b && false) ≡ false
        and-false true = refl
        and-false false = refl
    dropped_one false b k h = refl

-- the set of the merged list
pub merged_effects : (xs ys : List Atom) (deletes : State)
    → set_of (merge (kept deletes xs) ys) ≡ union (difference (set_of xs) deletes) (set_of ys)
merged_effects xs ys deletes =
    same_state _ _ (λ q.
    contains-set_of _ q
    ∙ merge-members (is_same q) (kept deletes xs) ys
    ∙ ap (λ b. b || list_any (is_same q) ys) (filter_members (λ a. not (contains deletes a)) q xs)
    ∙ ap (λ b. (b && not (contains deletes q)) || list_any (is_same q) ys) (sym (contains-set_of xs q))
    ∙ ap (λ b. (contains (set_of xs) q && not (contains deletes q)) || b) (sym (contains-set_of ys q))
    ∙ ap (λ b. b || contains (set_of ys) q) (sym (contains-difference (set_of xs) deletes q))
    ∙ sym (contains-union (difference (set_of xs) deletes) (set_of ys) q))

-- ## a state's fields and its set

-- the atoms of the set that an ascending list stands for
pub atoms_of_view : (xs : List Atom) (s : State) → IsStrictlySortedBy atom_cmp xs → set_of xs ≡ s → atoms_of s ≡ xs
atoms_of_view xs s sorted view = subst (λ (t : State). atoms_of t ≡ xs) view (atoms_of-set_of xs sorted)

-- where a test finds an equal atom, the list contains it
any_same : (q : Atom) (xs : List Atom) → list_any (is_same q) xs ≡ true → Contains xs q
any_same q xs any =
    let found = Any-from_list_any (is_same q) xs any in
    let here : q ≡ found.1 = atom_cmp-same q found.1 ((Equal-is (atom_cmp q found.1)).0 found.4) in
    subst (λ (x : Atom). Contains xs x) (sym here) (found.0, found.2, found.3)

-- where the list contains an atom, the test finds an equal one
same_any : (q : Atom) (xs : List Atom) → Contains xs q → list_any (is_same q) xs ≡ true
same_any q xs has =
    list_any_at (is_same q) xs has.0 q has.1 (ap (is_same q) has.2 ∙ ap is_eq (tied_itself atom_cmp-total q))

-- atoms that the test finds equal are equal
atom_eq-same : (x y : Atom) → atom_eq x y ≡ true → x ≡ y
atom_eq-same x y e = (atom_eq-decides x y).0 e

-- a list without repeats of neighbours has the same set
pub set_of-dedup : (xs : List Atom) → set_of (dedup atom_eq xs) ≡ set_of xs
set_of-dedup xs =
    same_state _ _ (λ q. contains-set_of _ q
    ∙ both_ways _ _
    (λ any. same_any q xs (Contains-from_dedup atom_eq xs q (any_same q _ any)))
    (λ any. same_any q _ (Contains-dedup atom_eq-laws atom_eq-same xs q (any_same q xs any)))
    ∙ sym (contains-set_of xs q))

-- lists with the same atoms in another sequence make the same set
pub set_of-IsPermutation : (xs ys : List Atom) → IsPermutation xs ys → set_of ys ≡ set_of xs
set_of-IsPermutation xs ys moved =
    same_state _ _ (λ q. contains-set_of ys q ∙ sym (list_any-IsPermutation (is_same q) xs ys moved) ∙ sym (contains-set_of xs q))

-- a sorted list without repeats ascends strictly
pub sorted-dedup : (xs : List Atom) → IsSorted atom_cmp xs → IsStrictlySortedBy atom_cmp (dedup atom_eq xs)
sorted-dedup xs sorted = IsStrictlySortedBy-dedup atom_cmp-total atom_cmp-matches xs sorted

-- ## a binary search

-- a strictly ascending list is sorted for a search
sorted_ties : (xs : List Atom) → IsStrictlySortedBy atom_cmp xs → IsSortedBy (λ a b. is_lt (atom_cmp a b)) xs
sorted_ties xs sorted k d low high =
    ap is_lt (atom_cmp-total.antisymm (get_or xs (k + 1) d) (get_or xs k d) ∙ ap ordering_reverse (Less-from_sorted atom_cmp xs k (k + 1) d sorted (omega arith) high))

-- what a binary search for q finds in an ascending list
pub found : (xs : List Atom) (q : Atom) (r : Result ℕ ℕ) → IsStrictlySortedBy atom_cmp xs
    → IsSearchInRange r (length xs) → IsBinarySearchResult (λ y. atom_cmp y q) xs r → is_ok r ≡ list_any (is_same q) xs
found xs q (Ok i) sorted range at =
    sym (list_any_at (is_same q) xs i q range (ap is_eq (tied_back atom_cmp-total (get_or xs i q) q (at q))))
found xs q (Err i) sorted range at =
    let split : AllWithin (λ y. atom_cmp y q ≡ Less) xs 0 i × AllWithin (λ y. atom_cmp y q ≡ Greater) xs i (length xs)
    = at (searchable_from_sorted atom_cmp-total (λ a. a) xs q (sorted_ties xs sorted)) in
    sym (list_any_none (is_same q) xs (λ k d below. ⊎_elim
    (λ before. apart _ Less (split.0 k d (omega arith) before) refl)
    (λ after. apart _ Greater (split.1 k d after below) refl)
    (cases_lt k i)))
  where
    apart : (y : Atom) (o : Ordering) → atom_cmp y q ≡ o → is_eq (ordering_reverse o) ≡ false → is_same q y ≡ false
    apart y o e h = ap is_eq (atom_cmp-total.antisymm q y ∙ ap ordering_reverse e) ∙ h

-- the merged atoms of two sets are ascending, and their set is that after the effects
pub effects_sorted : (xs ys : List Atom) (deletes : State) → IsStrictlySortedBy atom_cmp xs → IsStrictlySortedBy atom_cmp ys → IsStrictlySortedBy atom_cmp (merge (kept deletes xs) ys)
effects_sorted xs ys deletes a b = merge-sorted (kept deletes xs) ys (IsStrictlySortedBy-filter atom_cmp (λ x. not (contains deletes x)) xs a) b

-- what is kept of a state, merged with what is added, is the state after the effect
pub effects_of_sets : (s deletes adds : State) → set_of (merge (kept deletes (atoms_of s)) (atoms_of adds)) ≡ union (difference s deletes) adds
effects_of_sets s deletes adds =
    merged_effects (atoms_of s) (atoms_of adds) deletes
    ∙ ap (λ (t : State). union (difference t deletes) (set_of (atoms_of adds))) (set_of-atoms_of s)
    ∙ ap (λ (t : State). union (difference s deletes) t) (set_of-atoms_of adds)
