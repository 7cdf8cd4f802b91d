-- What holds in a state within the facts is possible, and what keeps to them leads to such a state.
use Rattle.std.proofs.Common.{◌≡◌, Bool, true, false, not, cond, ◌&&◌, ◌||◌, List, Contains, Option, Some, None, inl, inr, refl, sym, ap, ◌∙◌}
use Rattle.std.proofs.lemmas.Bool.{and_from, and_parts, both_ways, cases_Bool, false_from_ne_true, not-true, not_from_false, or_left, or_right}
use Rattle.htn_model.specs.Atom.{Atom}
use Rattle.htn_model.specs.State.{State, atoms_of, contains}
use Rattle.htn_model.specs.Literal.{Literal, atom, equality, Action, after, holds, literal_holds}
use Rattle.htn_model.specs.Problem.{GroundTask, Problem, perform_action}
use Rattle.htn_model.proofs.Sets.{contains-after, set_of-Contains, set_of-atoms_of}
use Rattle.heuristics.specs.Facts.{Facts, are_possible, has_effects, is_possible, is_within, may_fail}
use Rattle.heuristics.proofs.ReachLists.{all_from, each_passes}

-- an atom that is true is one of the true atoms
pub atom_listed : (s : State) (x : Atom) → contains s x ≡ true → Contains (atoms_of s) x
atom_listed s x has = (set_of-Contains (atoms_of s) x).0 (ap (λ (t : State). contains t x) (set_of-atoms_of s) ∙ has)

-- and the other way round
pub listed_atom : (s : State) (x : Atom) → Contains (atoms_of s) x → contains s x ≡ true
listed_atom s x at = sym (ap (λ (t : State). contains t x) (set_of-atoms_of s)) ∙ (set_of-Contains (atoms_of s) x).1 at

-- a test on which a state depends was passed
pub cond_passed : (b : Bool) (s next : State) → cond b (Some s) None ≡ Some next → (b ≡ true) × (s ≡ next)
cond_passed true s next h = (refl, (let same : s ≡ next = cc in same))
cond_passed false s next h = absurd cc

-- what an action that is carried out does: its precondition holds
pub performed_action : (problem : Problem) (g : GroundTask) (s next : State) (b : Option Action) → problem.action_of g ≡ b → perform_action s b ≡ Some next
    → (a : Action) × (problem.action_of g ≡ Some a) × (holds s a.precondition ≡ true) × (after s a ≡ next)
performed_action problem g s next None is h = absurd cc
performed_action problem g s next (Some a) is h = let parts = cond_passed (holds s a.precondition) (after s a) next h in (a, is, parts.0, parts.1)

-- of two that aren't both false the second is true where the first is false
pub second : (a b : Bool) → (a || b) ≡ true → a ≡ false → b ≡ true
second a b one none = sym (ap (λ x. x || b) none) ∙ one

-- an atom that was not deleted is true after, if it was before
stays : (a s d : Bool) → s ≡ true → d ≡ false → (a || (s && not d)) ≡ true
stays a s d was none = or_right a (s && not d) (and_from s (not d) was (not_from_false d none))

-- where it is true after and wasn't added it was true before
was : (a s d : Bool) → (a || (s && not d)) ≡ true → a ≡ false → s ≡ true
was a s d is none = (and_parts s (not d) (second a (s && not d) is none)).0

module _ (f : Facts) (s : State) (within : is_within f s ≡ true) where
  -- what is true may be
  true_may_hold : (x : Atom) → contains s x ≡ true → f.may_hold x ≡ true
  true_may_hold x has = each_passes f.may_hold (atoms_of s) x (and_parts _ _ within).0 (atom_listed s x has)

  -- what stays true is true
  lasting_true : (x : Atom) → contains f.lasting x ≡ true → contains s x ≡ true
  lasting_true x has = each_passes (contains s) (atoms_of f.lasting) x (and_parts _ _ within).1 (atom_listed f.lasting x has)

  -- a literal that holds is possible
  literal_possible : (l : Literal) → literal_holds s l ≡ true → is_possible f l ≡ true
  literal_possible (atom true x) is = true_may_hold x is
  literal_possible (atom false x) is = not_from_false _ (false_from_ne_true _ (λ there. both_ways _ (not-true _ is) (lasting_true x there)))
  literal_possible (equality true x y) is = is
  literal_possible (equality false x y) is = is

  -- so are literals that all hold
  pub all_possible : (ls : List Literal) → holds s ls ≡ true → are_possible f ls ≡ true
  all_possible ls all = all_from (is_possible f) ls (λ l at. literal_possible l (each_passes (literal_holds s) ls l all at))

  module _ (a : Action) (effects : has_effects f a ≡ true) where
    -- what is true after an action may be
    after_may_hold : (x : Atom) → contains (after s a) x ≡ true → f.may_hold x ≡ true
    after_may_hold x is = elim (cases_Bool (contains a.adds x)) [
      | inl added ↦ each_passes f.may_hold (atoms_of a.adds) x (and_parts _ _ effects).0 (atom_listed a.adds x added)
      | inr none ↦ true_may_hold x (was (contains a.adds x) (contains s x) (contains a.deletes x) (sym (contains-after s a x) ∙ is) none)
    ]

    -- what is deleted though it stays true is added again
    added_again : (x : Atom) → contains f.lasting x ≡ true → contains a.deletes x ≡ true → contains a.adds x ≡ true
    added_again x there deleted =
        second (may_fail f x) (contains a.adds x)
        (each_passes (λ y. may_fail f y || contains a.adds y) (atoms_of a.deletes) x (and_parts _ _ effects).1 (atom_listed a.deletes x deleted))
        (ap not there)

    -- what stays true is true after it
    lasting_after : (x : Atom) → contains f.lasting x ≡ true → contains (after s a) x ≡ true
    lasting_after x there = contains-after s a x ∙ elim (cases_Bool (contains a.deletes x)) [
      | inl deleted ↦ or_left (contains a.adds x) (contains s x && not (contains a.deletes x)) (added_again x there deleted)
      | inr none ↦ stays (contains a.adds x) (contains s x) (contains a.deletes x) (lasting_true x there) none
    ]

    -- so the state after it is within the facts
    pub within_after : is_within f (after s a) ≡ true
    within_after =
        and_from _ _ (all_from f.may_hold (atoms_of (after s a)) (λ x at. after_may_hold x (listed_atom (after s a) x at)))
        (all_from (contains (after s a)) (atoms_of f.lasting) (λ x at. lasting_after x (listed_atom f.lasting x at)))
