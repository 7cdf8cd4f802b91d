-- What two ascending lists of atoms make when they are merged.
use Rattle.std.proofs.Common.{◌≡◌, ℕ, Bool, true, false, cond, not, ◌||◌, List, [], ◌∷◌, refl, sym, ap, subst, ◌∙◌, length, drop, get_or, ◌+◌, ◌<◌, ◌≤◌, ◌++◌, append_assoc, add-one, drop-cons}
use Rattle.std.specs.List.{list_any, AllByRecursion}
use Rattle.std.specs.List.Sorted.{IsStrictlySortedBy}
use Rattle.std.specs.declared.cmp.Ordering.{Ordering}
use Rattle.std.specs.declared.cmp.Ordering.TheVariants.{Less, Equal, Greater}
use Rattle.std.specs.Ordering.{ordering_reverse, is_lt, is_eq}
use Rattle.std.specs.Cmp.{tied_back, Equal-is}
use Rattle.std.proofs.lemmas.List.{drop_all}
use Rattle.htn_model.specs.State.{State, contains}
use Rattle.htn_task.specs.Laws.{atom_cmp-matches}
use Rattle.htn_model.specs.Atom.{Atom, atom_cmp, atom_eq}
use Rattle.htn_task.specs.Merge.{by_order, merge, merge_first, kept}
use Rattle.htn_model.specs.AtomOrder.{atom_cmp-total, atom_cmp-same}

-- ## members

-- one of three, grouped either way
or_assoc : (a b c : Bool) → (a || (b || c)) ≡ ((a || b) || c)
or_assoc true b c = refl
or_assoc false b c = refl

-- one of three, with the first two changed round
or_swap : (a b c : Bool) → (b || (a || c)) ≡ (a || (b || c))
or_swap true true c = refl
or_swap true false c = refl
or_swap false true c = refl
or_swap false false c = refl

-- one of three, with the first said twice
or_again : (a b c : Bool) → (a || (b || c)) ≡ ((a || b) || (a || c))
or_again true b c = refl
or_again false b c = refl

module _ (p : Atom → Bool) where
  -- an atom in front of a list that is merged with another is a member of the result, with all of both
  merge_first_members : (x : Atom) (xs : List Atom) (next : List Atom → List Atom)
      → ((zs : List Atom) → list_any p (next zs) ≡ (list_any p xs || list_any p zs))
      → (ys : List Atom) → list_any p (merge_first x next ys) ≡ ((p x || list_any p xs) || list_any p ys)
  merge_first_members x xs next rest [] = ap (λ b. p x || b) (rest []) ∙ or_assoc (p x) (list_any p xs) false
  merge_first_members x xs next rest (y ∷ ys) =
      elim (atom_cmp x y) as (λ o. atom_cmp x y ≡ o → list_any p (by_order o (x ∷ next (y ∷ ys)) (x ∷ next ys) (y ∷ merge_first x next ys)) ≡ ((p x || list_any p xs) || (p y || list_any p ys))) [
        | Less ↦ λ _. ap (λ b. p x || b) (rest (y ∷ ys)) ∙ or_assoc (p x) (list_any p xs) (p y || list_any p ys)
        | Equal ↦ λ tie. ap (λ b. p x || b) (rest ys) ∙ or_again_at x y xs ys (atom_cmp-same x y tie)
        | Greater ↦ λ _. ap (λ b. p y || b) (merge_first_members x xs next rest ys) ∙ or_swap (p x || list_any p xs) (p y) (list_any p ys)
      ] refl
    where
      or_again_at : (x y : Atom) (xs ys : List Atom) → x ≡ y → (p x || (list_any p xs || list_any p ys)) ≡ ((p x || list_any p xs) || (p y || list_any p ys))
      or_again_at x y xs ys same = subst (λ (z : Atom). (p x || (list_any p xs || list_any p ys)) ≡ ((p x || list_any p xs) || (p z || list_any p ys))) same (or_again (p x) (list_any p xs) (list_any p ys))

  -- a merged list has exactly the atoms of both
  pub merge-members : (xs ys : List Atom) → list_any p (merge xs ys) ≡ (list_any p xs || list_any p ys)
  merge-members [] ys = refl
  merge-members (x ∷ xs) ys = merge_first_members x xs (merge xs) (merge-members xs) ys

-- ## order

-- z is below all of the list
abbrev Below : Atom → List Atom → Type 0
Below z = AllByRecursion (λ y. atom_cmp z y ≡ Less)

-- an atom below one that is below a list is below the list
below_chain : (w z : Atom) → atom_cmp w z ≡ Less → (ys : List Atom) → Below z ys → Below w ys
below_chain w z less [] below = tt
below_chain w z less (y ∷ ys) below = (atom_cmp-total.trans w z y less below.0, below_chain w z less ys below.1)

-- if one atom comes after another, the other comes before it
turned : (x y : Atom) → atom_cmp x y ≡ Greater → atom_cmp y x ≡ Less
turned x y e = atom_cmp-total.antisymm y x ∙ ap ordering_reverse e

-- an atom below both lists is below what they are merged to, step by step
merge_first_below : (z x : Atom) (next : List Atom → List Atom)
    → ((zs : List Atom) → Below z zs → Below z (next zs))
    → atom_cmp z x ≡ Less → (ys : List Atom) → Below z ys → Below z (merge_first x next ys)
merge_first_below z x next rest less [] below = (less, rest [] tt)
merge_first_below z x next rest less (y ∷ ys) below =
    elim (atom_cmp x y) as (λ o. Below z (by_order o (x ∷ next (y ∷ ys)) (x ∷ next ys) (y ∷ merge_first x next ys))) [
      | Less ↦ (less, rest (y ∷ ys) below)
      | Equal ↦ (less, rest ys below.1)
      | Greater ↦ (below.0, merge_first_below z x next rest less ys below.1)
    ]

-- an atom below two lists is below what they are merged to
merge_below : (z : Atom) (xs ys : List Atom) → Below z xs → Below z ys → Below z (merge xs ys)
merge_below z [] ys a b = b
merge_below z (x ∷ xs) ys a b = merge_first_below z x (merge xs) (λ zs. merge_below z xs zs a.1) a.0 ys b

-- an atom in front of an ascending list, merged with another, gives an ascending one
merge_first_sorted : (x : Atom) (xs : List Atom) → Below x xs
    → ((zs : List Atom) → IsStrictlySortedBy atom_cmp zs → IsStrictlySortedBy atom_cmp (merge xs zs))
    → (ys : List Atom) → IsStrictlySortedBy atom_cmp ys → IsStrictlySortedBy atom_cmp (merge_first x (merge xs) ys)
unfolding IsStrictlySortedBy
merge_first_sorted x xs below rest [] sorted = (merge_below x xs [] below tt, rest [] tt)
merge_first_sorted x xs below rest (y ∷ ys) sorted =
    elim (atom_cmp x y) as (λ o. atom_cmp x y ≡ o → IsStrictlySortedBy atom_cmp (by_order o (x ∷ merge xs (y ∷ ys)) (x ∷ merge xs ys) (y ∷ merge_first x (merge xs) ys))) [
      | Less ↦ λ e. (merge_below x xs (y ∷ ys) below (e, below_chain x y e ys sorted.0), rest (y ∷ ys) sorted)
      | Equal ↦ λ e. (merge_below x xs ys below (subst (λ (z : Atom). Below z ys) (sym (atom_cmp-same x y e)) sorted.0), rest ys sorted.1)
      | Greater ↦ λ e. (merge_first_below y x (merge xs) (λ zs. merge_below y xs zs (below_chain y x (turned x y e) xs below)) (turned x y e) ys sorted.0, merge_first_sorted x xs below rest ys sorted.1)
    ] refl

-- two ascending lists are merged to an ascending one
pub merge-sorted : (xs ys : List Atom) → IsStrictlySortedBy atom_cmp xs → IsStrictlySortedBy atom_cmp ys → IsStrictlySortedBy atom_cmp (merge xs ys)
unfolding IsStrictlySortedBy
merge-sorted [] ys a b = b
merge-sorted (x ∷ xs) ys a b = merge_first_sorted x xs a.0 (λ zs. merge-sorted xs zs a.1) ys b

-- ## steps of a merge by places

-- from a place on a list is the atom there and what follows it
at_place : (xs : List Atom) (i : ℕ) (x : Atom) → i < length xs → x ≡ get_or xs i x → drop i xs ≡ x ∷ drop (i + 1) xs
at_place xs i x below is = drop-cons xs i x below ∙ (λ k. sym is k ∷ drop (sym (add-one i) k) xs)

-- where the test for less holds, the comparison is less
less_is : (o : Ordering) → is_lt o ≡ true → o ≡ Less
less_is Less e = refl
less_is Equal e = cc
less_is Greater e = cc

-- the next atom of ys is below x
pub merge_below_first : (x : Atom) (next : List Atom → List Atom) (ys : List Atom) (j : ℕ) (y : Atom)
    → j < length ys → y ≡ get_or ys j y → is_lt (atom_cmp y x) ≡ true
    → merge_first x next (drop j ys) ≡ y ∷ merge_first x next (drop (j + 1) ys)
merge_below_first x next ys j y below is less =
    let greater : atom_cmp x y ≡ Greater = atom_cmp-total.antisymm x y ∙ ap ordering_reverse (less_is (atom_cmp y x) less) in
    ap (merge_first x next) (at_place ys j y below is)
    ∙ ap (λ o. by_order o (x ∷ next (y ∷ drop (j + 1) ys)) (x ∷ next (drop (j + 1) ys)) (y ∷ merge_first x next (drop (j + 1) ys))) greater

-- the next atom of ys is x
pub merge_same_first : (x : Atom) (next : List Atom → List Atom) (ys : List Atom) (j : ℕ) (y : Atom)
    → j < length ys → y ≡ get_or ys j y → atom_eq y x ≡ true
    → merge_first x next (drop j ys) ≡ x ∷ next (drop (j + 1) ys)
merge_same_first x next ys j y below is same =
    let equal : atom_cmp x y ≡ Equal = tied_back atom_cmp-total y x ((Equal-is (atom_cmp y x)).0 (sym (atom_cmp-matches y x) ∙ same)) in
    ap (merge_first x next) (at_place ys j y below is)
    ∙ ap (λ o. by_order o (x ∷ next (y ∷ drop (j + 1) ys)) (x ∷ next (drop (j + 1) ys)) (y ∷ merge_first x next (drop (j + 1) ys))) equal

-- where neither less nor equal holds, the comparison turned round is less
not_so : (o : Ordering) → is_lt o ≡ false → is_eq o ≡ false → ordering_reverse o ≡ Less
not_so Less e f = cc
not_so Equal e f = cc
not_so Greater e f = refl

-- the next atom of ys is above x
pub merge_above_first : (x : Atom) (next : List Atom → List Atom) (ys : List Atom) (j : ℕ) (y : Atom)
    → j < length ys → y ≡ get_or ys j y → is_lt (atom_cmp y x) ≡ false → atom_eq y x ≡ false
    → merge_first x next (drop j ys) ≡ x ∷ next (drop j ys)
merge_above_first x next ys j y below is less same =
    let above : atom_cmp x y ≡ Less = atom_cmp-total.antisymm x y ∙ not_so (atom_cmp y x) less (sym (atom_cmp-matches y x) ∙ same) in
    ap (merge_first x next) (at_place ys j y below is)
    ∙ ap (λ o. by_order o (x ∷ next (y ∷ drop (j + 1) ys)) (x ∷ next (drop (j + 1) ys)) (y ∷ merge_first x next (drop (j + 1) ys))) above
    ∙ ap (λ zs. x ∷ next zs) (sym (at_place ys j y below is))

-- nothing of ys is left
pub merge_first_end : (x : Atom) (next : List Atom → List Atom) (ys : List Atom) (j : ℕ)
    → length ys ≤ j → merge_first x next (drop j ys) ≡ x ∷ next (drop j ys)
merge_first_end x next ys j past = let none : drop j ys ≡ [] = drop_all j ys past in rw none refl

-- an atom that isn't deleted is the first that is kept from its place on
pub kept_in : (deletes : State) (xs : List Atom) (i : ℕ) (x : Atom) → i < length xs → x ≡ get_or xs i x
    → contains deletes x ≡ false → kept deletes (drop i xs) ≡ x ∷ kept deletes (drop (i + 1) xs)
kept_in deletes xs i x below is out =
    ap (kept deletes) (at_place xs i x below is) ∙ ap (λ b. cond (not b) (x ∷ kept deletes (drop (i + 1) xs)) (kept deletes (drop (i + 1) xs))) out

-- an atom that is deleted isn't kept
pub kept_out : (deletes : State) (xs : List Atom) (i : ℕ) (x : Atom) → i < length xs → x ≡ get_or xs i x
    → contains deletes x ≡ true → kept deletes (drop i xs) ≡ kept deletes (drop (i + 1) xs)
kept_out deletes xs i x below is out =
    ap (kept deletes) (at_place xs i x below is) ∙ ap (λ b. cond (not b) (x ∷ kept deletes (drop (i + 1) xs)) (kept deletes (drop (i + 1) xs))) out

-- one more at the end of what is done
pub one_more : (x z : Atom) (done new rest left total : List Atom) → new ≡ done ++ z ∷ [] → z ≡ x → left ≡ x ∷ rest → done ++ left ≡ total → new ++ rest ≡ total
one_more x z done new rest left total pushed same first whole =
    ap (λ l. l ++ rest) pushed ∙ append_assoc done (z ∷ []) rest ∙ ap (λ (a : Atom). done ++ a ∷ rest) same ∙ ap (λ l. done ++ l) (sym first) ∙ whole

-- two reads of one place
pub same_item : (xs : List Atom) (i : ℕ) (x y : Atom) → i < length xs → x ≡ get_or xs i x → y ≡ get_or xs i y → x ≡ y
same_item xs i x y below a b = let e = at_place xs i x below a in let f = at_place xs i y below b in cc

-- where an atom of the list goes to the end of what is done, the whole stays the same
pub pushed_last : (x z : Atom) (done new ys : List Atom) (j : ℕ) (total : List Atom) → j < length ys → x ≡ get_or ys j x
    → new ≡ done ++ z ∷ [] → z ≡ x → done ++ drop j ys ≡ total → new ++ drop (j + 1) ys ≡ total
pushed_last x z done new ys j total below is pushed same whole = one_more x z done new (drop (j + 1) ys) (drop j ys) total pushed same (at_place ys j x below is) whole
