-- Where no atom of a state stands, and which objects are excluded there.
use Rattle.std.proofs.Common.{◌≡◌, ℕ, zero, suc, true, false, not, List, [], ◌∷◌, ◌++◌, ◌⊎◌, inl, inr, ⊎_elim, Err, map, length, get_or, ◌+◌, ◌<◌, ◌≤◌, refl, sym, ap, subst, ◌∙◌, arith}
use Rattle.std.specs.List.{AllWithin, list_any}
use Rattle.std.specs.List.Sorted.{IsBinarySearchResult, IsSortedBy, IsStrictlySortedBy}
use Rattle.std.proofs.lemmas.List.{get_or_default}
use Rattle.std.proofs.lemmas.List.Sorted.{searchable_from_sorted}
use Rattle.std.specs.FinMap.{contains_key-keys}
use Rattle.std.specs.declared.cmp.Ordering.{Ordering}
use Rattle.std.specs.declared.cmp.Ordering.TheVariants.{Less, Equal, Greater}
use Rattle.std.specs.Ordering.{is_eq, is_lt, nat_cmp, ordering_reverse, ordering_then}
use Rattle.std.specs.Cmp.{nat_cmp_is, nat_cmp_total, tied_itself}
use Rattle.std.specs.Cmp.Lexicographic.{slice_cmp}
use Rattle.std.proofs.lemmas.Bool.{cases_lt, cases_order}
use Rattle.std.proofs.lemmas.List.Folds.{list_any_none}
use Rattle.std.proofs.lemmas.Map.Keys.{Less-from_sorted, below_from_sorted}
use Rattle.htn_model.specs.Atom.{Atom, atom_cmp}
use Rattle.htn_model.specs.AtomOrder.{atom_cmp-total}
use Rattle.htn_model.specs.State.{State, atoms_of}
use Rattle.htn_model.specs.Schema.{Term, parameter, object}
use Rattle.htn_model.specs.Instances.{value_of}
use Rattle.htn_model.proofs.Sets.{is_same}
use Rattle.htn_task.specs.Views.{terms_of}
use Rattle.htn_ground.specs.declared.candidates.Candidates.{Candidates}
use Rattle.htn_ground.specs.Candidates.{atom_of, is_excluded, rows_of}

-- ## An atom grows with the object of the last parameter

-- a number is smaller than one that it isn't past, or the same
below_or_same : (x y : ℕ) → x ≤ y → (nat_cmp x y ≡ Less) ⊎ (x ≡ y)
below_or_same x y h = by (cases_order x y)
  where
    by : (x ≡ y) ⊎ ((x < y) ⊎ (y < x)) → (nat_cmp x y ≡ Less) ⊎ (x ≡ y)
    by (inl same) = inr same
    by (inr (inl below)) = inl (sym (nat_cmp_is x y Less below))
    by (inr (inr above)) = absurd (omega arith)

-- a parameter's value grows with the last one
value_grows : (values : List ℕ) (x y p : ℕ) → x ≤ y → get_or (values ++ x ∷ []) p 0 ≤ get_or (values ++ y ∷ []) p 0
value_grows [] x y zero h = h
value_grows [] x y (suc p) h = omega arith
value_grows (v ∷ values) x y zero h = omega arith
value_grows (v ∷ values) x y (suc p) h = value_grows values x y p h

-- and so does a term's
term_grows : (values : List ℕ) (x y : ℕ) (t : Term) → x ≤ y → value_of (values ++ x ∷ []) t ≤ value_of (values ++ y ∷ []) t
term_grows values x y (parameter p) h = value_grows values x y p h
term_grows values x y (object o) h = omega arith

-- and so do arguments, in their order
arguments_grow : (values : List ℕ) (x y : ℕ) (terms : List Term) → x ≤ y
    → (slice_cmp nat_cmp (map (value_of (values ++ x ∷ [])) terms) (map (value_of (values ++ y ∷ [])) terms) ≡ Less) ⊎ (map (value_of (values ++ x ∷ [])) terms ≡ map (value_of (values ++ y ∷ [])) terms)
arguments_grow values x y [] h = inr refl
arguments_grow values x y (t ∷ terms) h = by (below_or_same a b (term_grows values x y t h)) (arguments_grow values x y terms h)
  where
    a : ℕ
    a = value_of (values ++ x ∷ []) t

    b : ℕ
    b = value_of (values ++ y ∷ []) t

    us : List ℕ
    us = map (value_of (values ++ x ∷ [])) terms

    vs : List ℕ
    vs = map (value_of (values ++ y ∷ [])) terms

    by : (nat_cmp a b ≡ Less) ⊎ (a ≡ b) → (slice_cmp nat_cmp us vs ≡ Less) ⊎ (us ≡ vs) → (slice_cmp nat_cmp (a ∷ us) (b ∷ vs) ≡ Less) ⊎ ((a ∷ us) ≡ (b ∷ vs))
    by (inl less) later = inl (ap (λ o. ordering_then o (slice_cmp nat_cmp us vs)) less)
    by (inr same) (inl less) = inl (ap (λ o. ordering_then o (slice_cmp nat_cmp us vs)) (ap (nat_cmp a) (sym same) ∙ tied_itself nat_cmp_total a) ∙ less)
    by (inr same) (inr alike) = inr (λ i. same i ∷ alike i)

-- and so does the atom
atom_grows : (values : List ℕ) (x y : ℕ) (c : Candidates) → x ≤ y
    → (atom_cmp (atom_of (values ++ x ∷ []) c) (atom_of (values ++ y ∷ []) c) ≡ Less) ⊎ (atom_of (values ++ x ∷ []) c ≡ atom_of (values ++ y ∷ []) c)
atom_grows values x y c h = by (arguments_grow values x y (terms_of c.arguments.items) h)
  where
    us : List ℕ
    us = map (value_of (values ++ x ∷ [])) (terms_of c.arguments.items)

    vs : List ℕ
    vs = map (value_of (values ++ y ∷ [])) (terms_of c.arguments.items)

    by : (slice_cmp nat_cmp us vs ≡ Less) ⊎ (us ≡ vs)
        → (atom_cmp (atom_of (values ++ x ∷ []) c) (atom_of (values ++ y ∷ []) c) ≡ Less) ⊎ (atom_of (values ++ x ∷ []) c ≡ atom_of (values ++ y ∷ []) c)
    by (inl less) = inl (ap (λ o. ordering_then o (slice_cmp nat_cmp us vs)) (tied_itself nat_cmp_total c.predicate) ∙ less)
    by (inr same) = inr (ap (λ (arguments : List ℕ). record { predicate = c.predicate; arguments = arguments }) same)

-- ## Between two neighbours

-- below what is below, or the same
up_to : (x y z : Atom) → (atom_cmp x y ≡ Less) ⊎ (x ≡ y) → atom_cmp y z ≡ Less → atom_cmp x z ≡ Less
up_to x y z (inl less) h = atom_cmp-total.trans x y z less h
up_to x y z (inr same) h = subst (λ (a : Atom). atom_cmp a z ≡ Less) (sym same) h

-- above what is above, or the same
from_on : (x y z : Atom) → atom_cmp x y ≡ Less → (atom_cmp y z ≡ Less) ⊎ (y ≡ z) → atom_cmp x z ≡ Less
from_on x y z h (inl less) = atom_cmp-total.trans x y z h less
from_on x y z h (inr same) = subst (λ (a : Atom). atom_cmp x a ≡ Less) same h

-- no atom between two that stand side by side is in the list
none_between : (xs : List Atom) (low high q : Atom) (i : ℕ) → AllWithin (λ y. atom_cmp y low ≡ Less) xs 0 i
    → ((k : ℕ) (d : Atom) → i ≤ k → k < length xs → atom_cmp high (get_or xs k d) ≡ Less)
    → (atom_cmp low q ≡ Less) ⊎ (low ≡ q) → (atom_cmp q high ≡ Less) ⊎ (q ≡ high) → list_any (is_same q) xs ≡ false
none_between xs low high q i before after from to =
    list_any_none (is_same q) xs (λ k d inside. ⊎_elim
    (λ early.
    ap is_eq (atom_cmp-total.antisymm q (get_or xs k d) ∙ ap ordering_reverse (from_on (get_or xs k d) low q (before k d (omega arith) early) from)))
    (λ late. ap is_eq (up_to q high (get_or xs k d) to (after k d late inside)))
    (cases_lt k i))

-- an atom below one of an ascending list is below all later ones
pub below_later : (xs : List Atom) (high next : Atom) (i : ℕ) → IsStrictlySortedBy atom_cmp xs → i < length xs → next ≡ get_or xs i next → is_lt (atom_cmp high next) ≡ true
    → (k : ℕ) (d : Atom) → i ≤ k → k < length xs → atom_cmp high (get_or xs k d) ≡ Less
below_later xs high next i sorted there is below k d late inside = by (cases_lt i k)
  where
    less : (o : Ordering) → is_lt o ≡ true → o ≡ Less
    less Less e = refl
    less Equal e = absurd cc
    less Greater e = absurd cc

    first : atom_cmp high (get_or xs i d) ≡ Less
    first = subst (λ (a : Atom). atom_cmp high a ≡ Less) (is ∙ get_or_default xs i next d there) (less _ below)

    by : (i < k) ⊎ (k ≤ i) → atom_cmp high (get_or xs k d) ≡ Less
    by (inl h) = atom_cmp-total.trans high (get_or xs i d) (get_or xs k d) first (Less-from_sorted atom_cmp xs i k d sorted h inside)
    by (inr h) = let same : k ≡ i = omega arith in ap (λ n. atom_cmp high (get_or xs n d)) same ∙ first

-- an ascending list is sorted, ties allowed
sorted_ties : (xs : List Atom) → IsStrictlySortedBy atom_cmp xs → IsSortedBy (λ a b. is_lt (atom_cmp a b)) xs
sorted_ties xs sorted k d low high =
    ap is_lt (atom_cmp-total.antisymm (get_or xs (k + 1) d) (get_or xs k d) ∙ ap ordering_reverse (Less-from_sorted atom_cmp xs k (k + 1) d sorted (omega arith) high))

-- what stands before the place where an atom is missing
pub before_missing : (xs : List Atom) (q : Atom) (i : ℕ) → IsStrictlySortedBy atom_cmp xs → IsBinarySearchResult (λ y. atom_cmp y q) xs (Err i) → AllWithin (λ y. atom_cmp y q ≡ Less) xs 0 i
before_missing xs q i sorted at = (at (searchable_from_sorted atom_cmp-total (λ a. a) xs q (sorted_ties xs sorted))).0

-- an object between two is excluded where no row stands between their atoms
pub excluded : (state : State) (c : Candidates) (values : List ℕ) (bottom o top i : ℕ) (xs : List Atom) (low : Atom)
    → xs ≡ atoms_of (rows_of state c) → low ≡ atom_of (values ++ bottom ∷ []) c
    → AllWithin (λ y. atom_cmp y low ≡ Less) xs 0 i
    → ((m : ℕ) (e : Atom) → i ≤ m → m < length xs → atom_cmp (atom_of (values ++ top ∷ []) c) (get_or xs m e) ≡ Less)
    → bottom ≤ o → o ≤ top → is_excluded state c values o ≡ true
excluded state c values bottom o top i xs low rows lowest before after above below =
    ap not (contains_key-keys (rows_of state c) (atom_of (values ++ o ∷ []) c)
    ∙ ap (list_any (is_same (atom_of (values ++ o ∷ []) c))) (sym rows)
    ∙ none_between xs low (atom_of (values ++ top ∷ []) c) (atom_of (values ++ o ∷ []) c) i before after
    (subst (λ (a : Atom). (atom_cmp a (atom_of (values ++ o ∷ []) c) ≡ Less) ⊎ (a ≡ atom_of (values ++ o ∷ []) c)) (sym lowest) (atom_grows values bottom o c above)) (atom_grows values o top c below))

-- objects in their order
pub ascending : (objects : List ℕ) (i j d e : ℕ) → IsStrictlySortedBy nat_cmp objects → i ≤ j → j < length objects → get_or objects i d ≤ get_or objects j e
ascending objects i j d e sorted h inside = by (cases_lt i j)
  where
    first : get_or objects i d ≡ get_or objects i 0
    first = get_or_default objects i d 0 (omega arith)

    last : get_or objects j e ≡ get_or objects j 0
    last = get_or_default objects j e 0 inside

    by : (i < j) ⊎ (j ≤ i) → get_or objects i d ≤ get_or objects j e
    by (inl less) = let lower = below_from_sorted objects i j 0 sorted less inside in omega (arith, first, last, lower)
    by (inr more) = let same : i ≡ j = omega arith in let alike : get_or objects i 0 ≡ get_or objects j 0 = ap (λ n. get_or objects n 0) same in omega (arith, first, last, alike)
