-- Atoms that are true at first have the first places.
use Rattle.std.proofs.Common.{◌≡◌, ◌∙◌, ◌+◌, ◌<◌, ◌≤◌, ◌++◌, ◌∷◌, ◌||◌, Bool, List, [], ap, arith, cond, false, get_or, if◌then◌else◌, inl, inr, length, ltb, not, refl, subst, suc, sym, take, true, zero, ℕ}
use Rattle.std.specs.Cmp.{tied_itself}
use Rattle.std.specs.List.{AllByRecursion, list_any, position_or_len}
use Rattle.std.specs.List.Sorted.{IsStrictlySortedBy}
use Rattle.std.specs.Ordering.{eq_by_cmp}
use Rattle.std.specs.declared.cmp.Ordering.TheVariants.{Equal, Less}
use Rattle.std.proofs.lemmas.Bool.{both_ways, lt-ltb, ltb-true}
use Rattle.std.proofs.lemmas.List.{get_or_past, take_more}
use Rattle.std.proofs.lemmas.List.Sums.{passes_at_first}
use Rattle.indexmap.specs.IndexSet.{insert_key}
use Rattle.htn_model.specs.Atom.{Atom, atom_cmp, atom_eq}
use Rattle.htn_model.specs.AtomOrder.{atom_cmp-total}
use Rattle.htn_model.specs.PlanFile.{IsIn}
use Rattle.htn_model.specs.State.{State, atoms_of, contains}
use Rattle.htn_model.proofs.Ascending.{all_in}
use Rattle.plan_lines.specs.Turns.{History, IsHistory, IsRising, IsStart, turns_of}
use Rattle.plan_lines.proofs.Listing.{in_at}
use Rattle.plan_lines.proofs.Setting.{in_state, not_in_state}
use Rattle.plan_lines.proofs.Touched.{atom_itself, same_atom}

-- ## Inserting atoms that ascend

-- an atom is not before itself
no_less : (x a : Atom) → x ≡ a → atom_cmp x a ≡ Less → ⊥
no_less x a same less = let tied : atom_cmp x x ≡ Equal = tied_itself atom_cmp-total x in let e = ap (atom_cmp x) same in absurd cc

-- an atom is not among those before it
absent : (atoms : List Atom) (i : ℕ) (a : Atom) → IsStrictlySortedBy atom_cmp atoms → i < length atoms → a ≡ get_or atoms i a → list_any (atom_eq a) (take i atoms) ≡ false
unfolding IsStrictlySortedBy
absent [] i a sorted below is = absurd (omega (arith, below))
absent (x ∷ atoms) zero a sorted below is = refl
absent (x ∷ atoms) (suc i) a sorted below is = by (atom_eq a x) refl (absent atoms i a sorted.1 (omega (arith, below)) is)
  where
    there : IsIn a atoms
    there = subst (λ y. IsIn y atoms) (sym is) (in_at atoms i a (omega (arith, below)))

    by : (b : Bool) → atom_eq a x ≡ b → list_any (atom_eq a) (take i atoms) ≡ false → (atom_eq a x || list_any (atom_eq a) (take i atoms)) ≡ false
    by true e rest = absurd (no_less x a (sym (same_atom a x e)) (all_in (λ y. atom_cmp x y ≡ Less) a atoms sorted.0 there))
    by false e rest = ap (λ b. b || list_any (atom_eq a) (take i atoms)) e ∙ rest

-- the next of ascending atoms goes to the end of those before it
pub inserted : (atoms keys new : List Atom) (i : ℕ) (a clone : Atom) → IsStrictlySortedBy atom_cmp atoms → i < length atoms → a ≡ get_or atoms i a → clone ≡ a → keys ≡ take i atoms
    → new ≡ insert_key atom_eq keys clone → new ≡ take (i + 1) atoms
inserted atoms keys new i a clone sorted below is same before put =
    put ∙ ap (insert_key atom_eq keys) same ∙ ap (λ ks. insert_key atom_eq ks a) before
    ∙ ap (λ (b : Bool). if b then take i atoms else take i atoms ++ a ∷ []) (absent atoms i a sorted below is)
    ∙ ap (λ y. take i atoms ++ y ∷ []) is ∙ sym (take_more atoms i a below)

-- ## Places

-- an atom that is in a list has a place there
in_place : (a : Atom) (xs : List Atom) → IsIn a xs → position_or_len (atom_eq a) xs < length xs
in_place a [] i = absurd i
in_place a (x ∷ xs) i = by (atom_eq a x) refl i (in_place a xs)
  where
    by : (b : Bool) → atom_eq a x ≡ b → IsIn a (x ∷ xs) → (IsIn a xs → position_or_len (atom_eq a) xs < length xs) → position_or_len (atom_eq a) (x ∷ xs) < length (x ∷ xs)
    by true e i more = let here : position_or_len (atom_eq a) (x ∷ xs) ≡ 0 = ap (λ b. cond (not b) (1 + position_or_len (atom_eq a) xs) 0) e in omega (arith, here)
    by false e (inl same) more = let itself : atom_eq a x ≡ true = ap (atom_eq a) (sym same) ∙ atom_itself a in absurd cc
    by false e (inr j) more =
        let low = more j in
        let here : position_or_len (atom_eq a) (x ∷ xs) ≡ 1 + position_or_len (atom_eq a) xs = ap (λ b. cond (not b) (1 + position_or_len (atom_eq a) xs) 0) e in
        omega (arith, low, here)

-- and one with a place there is in it
pub place_in : (a : Atom) (xs : List Atom) → position_or_len (atom_eq a) xs < length xs → IsIn a xs
place_in a xs below =
    let place = position_or_len (atom_eq a) xs in
    subst (λ x. IsIn x xs) (sym (same_atom a (get_or xs place a) (passes_at_first (atom_eq a) xs a below))) (in_at xs place a below)

-- a state's atoms are those with a place among them
seeded_at : (s : State) (a : Atom) → contains s a ≡ ltb (position_or_len (atom_eq a) (atoms_of s)) (length (atoms_of s))
seeded_at s a = by (contains s a) refl (ltb (position_or_len (atom_eq a) (atoms_of s)) (length (atoms_of s))) refl
  where
    by : (b : Bool) → contains s a ≡ b → (c : Bool) → ltb (position_or_len (atom_eq a) (atoms_of s)) (length (atoms_of s)) ≡ c
        → contains s a ≡ ltb (position_or_len (atom_eq a) (atoms_of s)) (length (atoms_of s))
    by true e c f = e ∙ sym (lt-ltb _ _ (in_place a (atoms_of s) (in_state s a e)))
    by false e true f = absurd (not_in_state s a e (place_in a (atoms_of s) (ltb-true _ _ f)))
    by false e false f = e ∙ sym f

-- no atom has turned at the start
pub start : (initial : State) (h : History) → h.initial ≡ initial → h.last ≡ 0 → h.atoms ≡ atoms_of initial → length h.turns ≡ length h.atoms → ((i : ℕ) → get_or h.turns i [] ≡ []) → IsStart initial h
start initial h initial_is last atoms long none = record {
  history = record {
    as_many = long;
    rising = λ i. subst (IsRising h.last) (sym (none i)) (record { rising = λ j k f g. absurd (omega (arith, g)); low = λ j f. absurd (omega (arith, f)) });
    many = (let k = ap length atoms in let n = ap (λ s. length (atoms_of s)) initial_is in omega (arith, k, n));
    first = λ a. ap (λ s. contains s a) initial_is ∙ seeded_at initial a ∙ sym (ap (λ xs. ltb (position_or_len (atom_eq a) xs) (length (atoms_of initial))) atoms)
        ∙ sym (ap (λ s. ltb (position_or_len (atom_eq a) h.atoms) (length (atoms_of s))) initial_is);
  };
  initial_is = initial_is;
  last = last;
  unturned = λ a. none (position_or_len (atom_eq a) h.atoms);
}
