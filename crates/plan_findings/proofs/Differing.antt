-- What an action adds and deletes, as the differences of the states before and after it.
use Rattle.std.proofs.Common.{◌≡◌, ◌∙◌, Bool, true, false, not, ◌&&◌, ◌||◌, List, ap, refl, subst, sym}
use Rattle.std.specs.FinMap.{contains_key-keys}
use Rattle.std.specs.List.{filter}
use Rattle.std.proofs.lemmas.List.Kept.{IsStrictlySortedBy-filter}
use Rattle.std.proofs.lemmas.Map.Views.{any-filter_same}
use Rattle.htn_model.specs.Atom.{Atom, atom_cmp}
use Rattle.htn_model.specs.AtomOrder.{same_state}
use Rattle.htn_model.specs.Literal.{Action, after}
use Rattle.htn_model.specs.State.{State, atoms_of, contains, difference, set_of}
use Rattle.htn_model.proofs.Sets.{atoms_ascend, atoms_of-set_of, contains-after, contains-difference, contains-set_of, is_same, same_as}

-- of the atoms of a state those that pass a test are the atoms of the state that has exactly these
pub passing_atoms : (s t : State) (p : Atom → Bool) → ((q : Atom) → contains t q ≡ (p q && contains s q)) → filter p (atoms_of s) ≡ atoms_of t
passing_atoms s t p is =
    sym (atoms_of-set_of (filter p (atoms_of s)) (IsStrictlySortedBy-filter atom_cmp p (atoms_of s) (atoms_ascend s)))
    ∙ ap atoms_of (same_state (set_of (filter p (atoms_of s))) t (λ q.
    contains-set_of (filter p (atoms_of s)) q
    ∙ any-filter_same (is_same q) p (p q) (λ x found. sym (ap p (same_as q x found))) (atoms_of s)
    ∙ ap (λ b. p q && b) (sym (contains_key-keys s q))
    ∙ sym (is q)))

-- an atom is new where it is added and was false
is_added : (adds was deletes : Bool) → ((adds || (was && not deletes)) && not was) ≡ (not was && adds)
is_added true true deletes = refl
is_added true false deletes = refl
is_added false true true = refl
is_added false true false = refl
is_added false false deletes = refl

-- an atom is lost where it is deleted, not added, and was true
is_deleted : (adds was deletes : Bool) → (was && not (adds || (was && not deletes))) ≡ ((not adds && was) && deletes)
is_deleted true true deletes = refl
is_deleted true false deletes = refl
is_deleted false true true = refl
is_deleted false true false = refl
is_deleted false false deletes = refl

-- the added atoms that were false are those that are true after and not before
pub added_are : (before : State) (a : Action) (was : Atom → Bool) → ((q : Atom) → contains before q ≡ was q)
    → filter (λ q. not (was q)) (atoms_of a.adds) ≡ atoms_of (difference (after before a) before)
added_are before a was is =
    passing_atoms a.adds (difference (after before a) before) (λ q. not (was q)) (λ q.
    contains-difference (after before a) before q
    ∙ ap (λ b. b && not (contains before q)) (contains-after before a q)
    ∙ is_added (contains a.adds q) (contains before q) (contains a.deletes q)
    ∙ ap (λ b. not b && contains a.adds q) (is q))

-- the deleted atoms that were true, and are not added, are those that are true before and not after
pub deleted_are : (before : State) (a : Action) (was : Atom → Bool) → ((q : Atom) → contains before q ≡ was q)
    → filter (λ q. not (contains a.adds q) && was q) (atoms_of a.deletes) ≡ atoms_of (difference before (after before a))
deleted_are before a was is =
    passing_atoms a.deletes (difference before (after before a)) (λ q. not (contains a.adds q) && was q) (λ q.
    contains-difference before (after before a) q
    ∙ ap (λ b. contains before q && not b) (contains-after before a q)
    ∙ is_deleted (contains a.adds q) (contains before q) (contains a.deletes q)
    ∙ ap (λ b. (not (contains a.adds q) && b) && contains a.deletes q) (is q))
