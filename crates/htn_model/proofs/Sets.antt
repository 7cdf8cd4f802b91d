-- States by their members.
use Rattle.std.proofs.Common.{◌≡◌, Bool, true, false, cond, not, ◌||◌, ◌&&◌, List, [], ◌∷◌, Some, None, Option, map, refl, sym, ap, subst, ◌∙◌, T}
use Rattle.std.specs.Prelude.{is_some, ◌↔◌}
use Rattle.std.specs.List.{list_any, AllByRecursion, Contains}
use Rattle.std.specs.List.Sorted.{IsStrictlySortedBy}
use Rattle.std.specs.declared.cmp.Ordering.TheVariants.{Less, Equal, Greater}
use Rattle.std.specs.declared.cmp.Ordering.{Ordering}
use Rattle.std.specs.Ordering.{eq_by_cmp, is_eq, is_lt}
use Rattle.std.specs.Cmp.{Equal-is, tied_itself}
use Rattle.std.specs.FinMap.{get-empty, get-insert, get-retain_keys, get-from_entries, get-from_sorted, contains_key-keys, same_map, from_sorted, entries-from_sorted, is_sorted, keys, entries, entries_sorted}
use Rattle.std.proofs.lemmas.List.Folds.{list_any_at, Any-from_list_any}
use Rattle.std.specs.FinMap.Entries.{below_all}
use Rattle.htn_model.specs.Atom.{Atom, atom_cmp}
use Rattle.htn_model.specs.State.{State, marked, set_of, contains, atoms_of, difference, with_atoms, union}
use Rattle.htn_model.specs.Literal.{Action, after}
use Rattle.htn_model.specs.Members.{StatesAreSets}
use Rattle.htn_model.specs.AtomOrder.{atom_cmp-total, atom_cmp-same, same_state}

-- an atom is q
abbrev pub is_same : Atom → Atom → Bool
is_same = eq_by_cmp atom_cmp

-- atoms that the test finds the same are equal
pub same_as : (q x : Atom) → is_same q x ≡ true → q ≡ x
same_as q x e = atom_cmp-same q x ((Equal-is (atom_cmp q x)).0 e)

-- a mark that is there by a test, or else another
Some-or : (b : Bool) (x : Option (Unit {0})) → is_some (cond b (Some tt) x) ≡ (b || is_some x)
Some-or true x = refl
Some-or false x = refl

-- a mark that is there only if a test holds
or-none : (b : Bool) (x : Option (Unit {0})) → is_some (cond b x None) ≡ (is_some x && b)
or-none true None = refl
or-none true (Some u) = refl
or-none false None = refl
or-none false (Some u) = refl

-- one of three, with the first two changed round
or_swap : (a b c : Bool) → (b || (a || c)) ≡ (a || (b || c))
or_swap true true c = refl
or_swap true false c = refl
or_swap false true c = refl
or_swap false false c = refl

-- with what fails, either is the other
or-false : (a : Bool) → a ≡ (a || false)
or-false true = refl
or-false false = refl

-- ## Members

-- the set of a list has an atom where the list does
pub contains-set_of : (xs : List Atom) (q : Atom) → contains (set_of xs) q ≡ list_any (is_same q) xs
contains-set_of [] q = ap is_some (get-empty atom_cmp q)
contains-set_of (x ∷ xs) q = ap is_some (get-insert atom_cmp-total (set_of xs) x tt q) ∙ Some-or _ _ ∙ ap (λ b. is_same q x || b) (contains-set_of xs q)

-- a set with more atoms has an atom where it or the list does
contains-with_atoms : (s : State) (xs : List Atom) (q : Atom) → contains (with_atoms s xs) q ≡ (contains s q || list_any (is_same q) xs)
contains-with_atoms s [] q = or-false _
contains-with_atoms s (x ∷ xs) q =
    ap is_some (get-insert atom_cmp-total (with_atoms s xs) x tt q) ∙ Some-or _ _ ∙ ap (λ b. is_same q x || b) (contains-with_atoms s xs q)
    ∙ or_swap (contains s q) (is_same q x) (list_any (is_same q) xs)

-- a union has an atom where one of the two does
pub contains-union : (s t : State) (q : Atom) → contains (union s t) q ≡ (contains s q || contains t q)
contains-union s t q = contains-with_atoms s (atoms_of t) q ∙ ap (λ b. contains s q || b) (sym (contains_key-keys t q))

-- a difference has an atom where the first does and the second doesn't
pub contains-difference : (s t : State) (q : Atom) → contains (difference s t) q ≡ (contains s q && not (contains t q))
contains-difference s t q =
    ap is_some (get-retain_keys s (λ a. not (contains t a)) q (λ x tie. ap (λ (a : Atom). not (contains t a)) (sym (atom_cmp-same q x tie)))) ∙ or-none (not (contains t q)) _

-- an atom is true after an action where it is added, or was true and is not deleted
pub contains-after : (s : State) (a : Action) (q : Atom) → contains (after s a) q ≡ (contains a.adds q || (contains s q && not (contains a.deletes q)))
contains-after s a q =
    contains-union (difference s a.deletes) a.adds q ∙ ap (λ b. b || contains a.adds q) (contains-difference s a.deletes q)
    ∙ turned (contains s q && not (contains a.deletes q)) (contains a.adds q)
  where
    turned : (a b : Bool) → (a || b) ≡ (b || a)
    turned true true = refl
    turned true false = refl
    turned false true = refl
    turned false false = refl

-- where a test finds an equal atom, the list contains it
any_same : (q : Atom) (xs : List Atom) → list_any (is_same q) xs ≡ true → Contains xs q
any_same q xs any =
    let found = Any-from_list_any (is_same q) xs any in
    let here : q ≡ found.1 = same_as q found.1 found.4 in
    subst (λ (x : Atom). Contains xs x) (sym here) (found.0, found.2, found.3)

-- where the list contains an atom, the test finds an equal one
same_any : (q : Atom) (xs : List Atom) → Contains xs q → list_any (is_same q) xs ≡ true
same_any q xs has = list_any_at (is_same q) xs has.0 q has.1 (ap (is_same q) has.2 ∙ ap is_eq (tied_itself atom_cmp-total q))

-- the set of a list has exactly its atoms
pub set_of-Contains : (xs : List Atom) (q : Atom) → (contains (set_of xs) q ≡ true) ↔ Contains xs q
set_of-Contains xs q = (λ h. any_same q xs (sym (contains-set_of xs q) ∙ h), λ h. contains-set_of xs q ∙ same_any q xs h)

-- ## The set of an ascending list

-- two tests that hold hold together
both : (a b : Bool) → T a → T b → T (a && b)
both true b p q = q
both false b p q = p

-- an atom below all of a list is below its marked ones
below_marked : (x : Atom) (xs : List Atom) → AllByRecursion (λ y. atom_cmp x y ≡ Less) xs → T (below_all atom_cmp x (marked xs))
below_marked x [] h = tt
below_marked x (y ∷ ys) h = both _ _ (subst (λ o. T (is_lt o)) (sym h.0) tt) (below_marked x ys h.1)

-- an ascending list is sorted with its marks
sorted_marked : (xs : List Atom) → IsStrictlySortedBy atom_cmp xs → T (is_sorted atom_cmp (marked xs))
unfolding IsStrictlySortedBy
sorted_marked [] h = tt
sorted_marked (x ∷ xs) h = both _ _ (below_marked x xs h.0) (sorted_marked xs h.1)

-- marked atoms without marks are the atoms
keys_marked : (xs : List Atom) → map (λ (e : Atom × Unit {0}). e.0) (marked xs) ≡ xs
keys_marked [] = refl
keys_marked (x ∷ xs) = ap (λ l. x ∷ l) (keys_marked xs)

-- the atoms of the set of a strictly ascending list are the list
pub atoms_of-set_of : (xs : List Atom) → IsStrictlySortedBy atom_cmp xs → atoms_of (set_of xs) ≡ xs
atoms_of-set_of xs sorted =
    let h : T (is_sorted atom_cmp (marked xs)) = sorted_marked xs sorted in
    let same : set_of xs ≡ from_sorted (marked xs) = same_map atom_cmp-total atom_cmp-same _ _ (λ q. get-from_entries atom_cmp-total (marked xs) q ∙ sym (get-from_sorted atom_cmp (marked xs) q h)) in
    ap keys same ∙ ap (λ es. map (λ (e : Atom × Unit {0}). e.0) es) (entries-from_sorted atom_cmp (marked xs) h) ∙ keys_marked xs

-- a state is the set of its atoms
pub set_of-atoms_of : (s : State) → set_of (atoms_of s) ≡ s
set_of-atoms_of s = same_state _ s (λ q. contains-set_of (atoms_of s) q ∙ sym (contains_key-keys s q))

-- where two tests hold together, the first does
first_so : (a b : Bool) → T (a && b) → T a
first_so true b h = tt
first_so false b h = h

-- where two tests hold together, the second does
second_so : (a b : Bool) → T (a && b) → T b
second_so true b h = h
second_so false b h = absurd h

-- what tests as less is less
less_so : (o : Ordering) → T (is_lt o) → o ≡ Less
less_so Less h = refl
less_so Equal h = absurd h
less_so Greater h = absurd h

-- an atom below marked ones is below the atoms
all_above : (x : Atom) (es : List (Atom × Unit {0})) → T (below_all atom_cmp x es) → AllByRecursion (λ y. atom_cmp x y ≡ Less) (map (λ (e : Atom × Unit {0}). e.0) es)
all_above x [] h = tt
all_above x (e ∷ es) h = (less_so (atom_cmp x e.0) (first_so _ _ h), all_above x es (second_so _ _ h))

-- sorted marked atoms ascend
keys_ascend : (es : List (Atom × Unit {0})) → T (is_sorted atom_cmp es) → IsStrictlySortedBy atom_cmp (map (λ (e : Atom × Unit {0}). e.0) es)
unfolding IsStrictlySortedBy
keys_ascend [] h = tt
keys_ascend (e ∷ es) h = (all_above e.0 es (first_so _ _ h), keys_ascend es (second_so _ _ h))

-- the atoms of a state are ascending
pub atoms_ascend : (s : State) → IsStrictlySortedBy atom_cmp (atoms_of s)
atoms_ascend s = keys_ascend (entries s) (entries_sorted s)

-- states are sets
pub states_are_sets : StatesAreSets
states_are_sets = record {
  made = set_of-Contains;
  united = contains-union;
  parted = contains-difference;
  changed = contains-after;
  same = same_state;
  listed = set_of-atoms_of;
  ascending = atoms_ascend;
  in_order = atoms_of-set_of;
}
