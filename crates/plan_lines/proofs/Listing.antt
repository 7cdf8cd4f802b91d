-- Members of lists, and that an atom that is true in some gap is listed.
use Rattle.std.proofs.Common.{◌≡◌, ◌∙◌, ◌+◌, ◌<◌, ◌≤◌, ◌++◌, ◌∷◌, Bool, List, Some, [], ap, arith, false, get_or, inl, inr, length, nat_lt, refl, slice_get, suc, sym, true, zero, ℕ}
use Rattle.std.specs.List.{position_or_len}
use Rattle.std.proofs.lemmas.Bool.{le-ltb}
use Rattle.std.proofs.lemmas.Bool.Decides.{nat_tests}
use Rattle.std.proofs.lemmas.List.{get_or_past}
use Rattle.htn_model.specs.Atom.{Atom, atom_eq}
use Rattle.htn_model.specs.PlanFile.{IsIn}
use Rattle.htn_model.specs.State.{contains}
use Rattle.plan_lines.specs.Turns.{History, IsEverTrue, IsHistory, is_true_in, turns_of}

-- ## Members

-- an item stays where a list is longer
pub in_front : {X : Type 0} (x : X) (xs ys : List X) → IsIn x xs → IsIn x (xs ++ ys)
in_front x [] ys i = absurd i
in_front x (z ∷ xs) ys (inl e) = inl e
in_front x (z ∷ xs) ys (inr i) = inr (in_front x xs ys i)

-- also after another list
pub in_back : {X : Type 0} (x : X) (xs ys : List X) → IsIn x ys → IsIn x (xs ++ ys)
in_back x [] ys i = i
in_back x (z ∷ xs) ys i = inr (in_back x xs ys i)

-- an item has a place
pub placed_in : {X : Type 0} (x : X) (xs : List X) → IsIn x xs → (k : ℕ) × (k < length xs) × (slice_get xs k ≡ Some x)
placed_in x [] i = absurd i
placed_in x (z ∷ xs) (inl e) = (zero, omega arith, ap Some (sym e))
placed_in x (z ∷ xs) (inr i) = let m = placed_in x xs i in (suc m.0, omega (arith, m.1), m.2)

-- what stands at a place is there
pub in_at : {X : Type 0} (xs : List X) (k : ℕ) (d : X) → k < length xs → IsIn (get_or xs k d) xs
in_at [] k d h = absurd (omega (arith, h))
in_at (x ∷ xs) zero d h = inl refl
in_at (x ∷ xs) (suc k) d h = inr (in_at xs k d (omega (arith, h)))

-- ## What is ever true

-- an atom that is true in some gap has a place
pub ever_placed : (h : History) (a : Atom) → IsHistory h → IsEverTrue h a → position_or_len (atom_eq a) h.atoms < length h.atoms
ever_placed h a history (k, low, is) = by (nat_lt (position_or_len (atom_eq a) h.atoms) (length h.atoms)) refl
  where
    by : (t : Bool) → nat_lt (position_or_len (atom_eq a) h.atoms) (length h.atoms) ≡ t → position_or_len (atom_eq a) h.atoms < length h.atoms
    by true f = grind (arith, nat_tests)
    by false f =
        let above : length h.atoms ≤ position_or_len (atom_eq a) h.atoms = grind (arith, nat_tests) in
        let many = history.many in
        let none : turns_of h a ≡ [] = get_or_past h.turns (position_or_len (atom_eq a) h.atoms) [] (let long = history.as_many in omega (arith, long, above)) in
        let never : contains h.initial a ≡ false = history.first a ∙ le-ltb _ _ (omega (arith, many, above)) in
        let clash : false ≡ true = sym never ∙ sym (ap (λ (l : List ℕ). is_true_in (contains h.initial a) l k) none) ∙ is in
        absurd cc
