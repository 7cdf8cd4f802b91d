-- Atoms that are made true or false in the last gap.
use Rattle.std.proofs.Common.{◌≡◌, ℕ, zero, suc, ◌<◌, Bool, true, false, not, ◌||◌, ◌&&◌, List, [], ◌∷◌, ◌++◌, length, get_or, ltb, set, ◌⊎◌, inl, inr, refl, sym, ap, ap₂, ◌∙◌, subst, arith}
use Rattle.std.specs.List.{position_or_len}
use Rattle.std.proofs.lemmas.Bool.{both_ways}
use Rattle.htn_model.specs.Atom.{Atom, atom_eq}
use Rattle.htn_model.specs.AtomOrder.{atom_eq-decides}
use Rattle.htn_model.specs.State.{State, contains, atoms_of}
use Rattle.htn_model.specs.Literal.{Action}
use Rattle.htn_model.specs.PlanFile.{IsIn}
use Rattle.htn_model.proofs.Ascending.{in_left, in_right, in_split}
use Rattle.htn_model.proofs.Sets.{set_of-Contains, set_of-atoms_of}
use Rattle.plan_lines.specs.Turns.{is_true_in, is_turned, IsRising, IsTurnedOver, History, turns_of, truth, IsHistory, AreTurned, IsApplied}
use Rattle.plan_lines.proofs.Truths.{split_truth, all_passed}
use Rattle.plan_lines.proofs.Touched.{same_atom, set_here, set_there, set_history}

-- two atoms are the same or not
same_or_not : (a b : Atom) → (a ≡ b) ⊎ (a ≡ b → ⊥)
same_or_not a b = by (atom_eq a b) refl
  where
    by : (e : Bool) → atom_eq a b ≡ e → (a ≡ b) ⊎ (a ≡ b → ⊥)
    by true h = inl (same_atom a b h)
    by false h = inr (λ same. both_ways _ h ((atom_eq-decides a b).1 same))

-- what is not a value is so when it is turned over
not_value : (a b : Bool) → (a ≡ b → ⊥) → not a ≡ b
not_value true true n = absurd (n refl)
not_value true false n = refl
not_value false true n = refl
not_value false false n = absurd (n refl)

-- ## One atom

-- what is known once an atom has its place
pub record IsTouched (old mid : History) (a : Atom) : Type 0 where
  pub history : IsHistory mid
  pub initial : mid.initial ≡ old.initial
  pub last : mid.last ≡ old.last
  pub same : (b : Atom) → turns_of mid b ≡ turns_of old b
  pub within : position_or_len (atom_eq a) mid.atoms < length mid.turns

module _ (old mid : History) (a : Atom) (value : Bool) (touched : IsTouched old mid a) where
  -- the atom's place in the history
  abbrev place : ℕ
  place = position_or_len (atom_eq a) mid.atoms

  -- touching changes no truth
  same_truth : (b : Atom) (k : ℕ) → truth mid b k ≡ truth old b k
  same_truth b k = ap₂ (λ s ts. is_true_in (contains s b) ts k) touched.initial (touched.same b)

  -- what the atom is in the last gap comes from how often it has turned
  now : truth mid a mid.last ≡ is_turned (contains mid.initial a) (length (turns_of mid a))
  now = split_truth (contains mid.initial a) (turns_of mid a) mid.last (length (turns_of mid a)) (all_passed mid.last (turns_of mid a) mid.last (touched.history.rising place) (omega arith))

  -- it stays as it is
  pub stays : is_turned (contains mid.initial a) (length (turns_of mid a)) ≡ value → AreTurned old mid (a ∷ []) value
  stays is = record {
    past = record { initial = touched.initial; last = touched.last; before = λ b k h. same_truth b k };
    these = λ b i. elim i [
      | inl same ↦ subst (λ n. truth mid b n ≡ value) touched.last (subst (λ x. truth mid x mid.last ≡ value) (sym same) (now ∙ is))
      | inr none ↦ absurd none
    ];
    others = λ b other. same_truth b old.last;
  }

  module _ (new : History) (turns : List ℕ) (initial : new.initial ≡ mid.initial) (last : new.last ≡ mid.last) (atoms : new.atoms ≡ mid.atoms) (are : new.turns ≡ set mid.turns place turns)
      (over : IsTurnedOver (turns_of mid a) turns mid.last) (other : is_turned (contains mid.initial a) (length (turns_of mid a)) ≡ value → ⊥) where
    -- the atom's turns are the new ones
    its_turns : turns_of new a ≡ turns
    its_turns = ap₂ (λ ls xs. get_or ls (position_or_len (atom_eq a) xs) []) are atoms ∙ set_here mid.atoms mid.turns a turns touched.within

    -- those of others are as they were
    their_turns : (b : Atom) → (a ≡ b → ⊥) → turns_of new b ≡ turns_of mid b
    their_turns b n = ap₂ (λ ls xs. get_or ls (position_or_len (atom_eq b) xs) []) are atoms ∙ set_there mid.atoms mid.turns a b turns touched.history.as_many touched.within n

    -- the atom is true by the new turns
    its_truth : (k : ℕ) → truth new a k ≡ is_true_in (contains mid.initial a) turns k
    its_truth k = ap₂ (λ s ts. is_true_in (contains s a) ts k) initial its_turns

    -- others are true as they were
    their_truth : (b : Atom) → (a ≡ b → ⊥) → (k : ℕ) → truth new b k ≡ truth old b k
    their_truth b n k = ap₂ (λ s ts. is_true_in (contains s b) ts k) initial (their_turns b n) ∙ same_truth b k

    -- or it is turned over
    pub turns_over : IsHistory new × AreTurned old new (a ∷ []) value
    turns_over = (
      set_history mid new place turns touched.history initial last atoms are over.rising,
      record {
        past = record {
          initial = initial ∙ touched.initial;
          last = last ∙ touched.last;
          before = λ b k h. elim (same_or_not a b) [
            | inl same ↦ subst (λ x. truth new x k ≡ truth old x k) same (its_truth k ∙ over.before (contains mid.initial a) k (let l = touched.last in omega arith) ∙ same_truth a k)
            | inr n ↦ their_truth b n k
          ];
        };
        these = λ b i. elim i [
          | inl same ↦ subst (λ x. truth new x old.last ≡ value) (sym same)
              (subst (λ n. truth new a n ≡ value) touched.last (its_truth mid.last ∙ over.here (contains mid.initial a) ∙ ap not now ∙ not_value _ value other))
          | inr none ↦ absurd none
        ];
        others = λ b n. their_truth b (λ same. n (inl (sym same))) old.last;
      },
    )

-- ## Several atoms

-- no atom
pub none_turned : (h : History) (value : Bool) → AreTurned h h [] value
none_turned h value = record {
  past = record { initial = refl; last = refl; before = λ b k l. refl };
  these = λ b i. absurd i;
  others = λ b n. refl;
}

-- one more
pub more_turned : (old mid new : History) (atoms : List Atom) (a : Atom) (value : Bool) → AreTurned old mid atoms value → AreTurned mid new (a ∷ []) value
    → AreTurned old new (atoms ++ a ∷ []) value
more_turned old mid new atoms a value first then = record {
  past = record {
    initial = then.past.initial ∙ first.past.initial;
    last = then.past.last ∙ first.past.last;
    before = λ b k h. then.past.before b k (let l = first.past.last in omega arith) ∙ first.past.before b k h;
  };
  these = λ b i. these b (same_or_not b a) (in_split b atoms (a ∷ []) i);
  others = λ b n. subst (λ k. truth new b k ≡ truth mid b k) first.past.last (then.others b (λ i. n (in_right b atoms (a ∷ []) i))) ∙ first.others b (λ i. n (in_left b atoms (a ∷ []) i));
}
  where
    last_one : (b : Atom) → IsIn b (a ∷ []) → truth new b old.last ≡ value
    last_one b i = subst (λ k. truth new b k ≡ value) first.past.last (then.these b i)

    these : (b : Atom) → (b ≡ a) ⊎ (b ≡ a → ⊥) → IsIn b atoms ⊎ IsIn b (a ∷ []) → truth new b old.last ≡ value
    these b s (inr i) = last_one b i
    these b (inl same) (inl i) = last_one b (inl same)
    these b (inr other) (inl i) =
        subst (λ k. truth new b k ≡ truth mid b k) first.past.last (then.others b (λ j. elim j [ inl e ↦ other e | inr none ↦ none ])) ∙ first.these b i

-- ## An action

-- the next gap begins as the last one
pub record IsNextOf (old next : History) : Type 0 where
  pub initial : next.initial ≡ old.initial
  pub last : next.last ≡ suc old.last
  pub atoms : next.atoms ≡ old.atoms
  pub turns : next.turns ≡ old.turns

-- which keeps all turns
pub next_history : (old next : History) → IsHistory old → IsNextOf old next → IsHistory next
next_history old next is n = record {
  as_many = ap length n.turns ∙ is.as_many ∙ sym (ap length n.atoms);
  rising = λ i. let r = is.rising i in let e = n.last in
      subst (IsRising next.last) (sym (ap (λ ls. get_or ls i []) n.turns)) (record { rising = r.rising; low = λ j l. (let h = r.low j l in omega arith) });
  many = (let m = is.many in let i = ap (λ s. length (atoms_of s)) n.initial in let k = ap length n.atoms in omega (arith, m, i, k));
  first = λ b. ap (λ s. contains s b) n.initial ∙ is.first b ∙ sym (ap₂ (λ xs s. ltb (position_or_len (atom_eq b) xs) (length (atoms_of s))) n.atoms n.initial);
}

-- the turns of each atom
next_turns : (old next : History) → IsNextOf old next → (b : Atom) → turns_of next b ≡ turns_of old b
next_turns old next n b = ap₂ (λ ls xs. get_or ls (position_or_len (atom_eq b) xs) []) n.turns n.atoms

-- and its truth
next_truth : (old next : History) → IsNextOf old next → (b : Atom) (k : ℕ) → truth next b k ≡ truth old b k
next_truth old next n b k = ap₂ (λ s ts. is_true_in (contains s b) ts k) n.initial (next_turns old next n b)

-- past the last gap truth stays
settled : (old next : History) → IsHistory old → IsNextOf old next → (b : Atom) → truth next b next.last ≡ truth old b old.last
settled old next is n b =
    next_truth old next n b next.last
    ∙ split_truth (contains old.initial b) (turns_of old b) next.last (length (turns_of old b)) (all_passed old.last (turns_of old b) next.last (is.rising _) (let e = n.last in omega arith))
    ∙ sym (split_truth (contains old.initial b) (turns_of old b) old.last (length (turns_of old b)) (all_passed old.last (turns_of old b) old.last (is.rising _) (omega arith)))

-- a true atom is among those of the state
pub in_state : (s : State) (b : Atom) → contains s b ≡ true → IsIn b (atoms_of s)
in_state s b h =
    let (i, low, is) = (set_of-Contains (atoms_of s) b).0 (ap (λ t. contains t b) (set_of-atoms_of s) ∙ h) in
    at_index (atoms_of s) i b low is
  where
    at_index : (xs : List Atom) (i : ℕ) (b : Atom) → i < length xs → get_or xs i b ≡ b → IsIn b xs
    at_index [] i b l e = absurd (omega arith)
    at_index (x ∷ xs) zero b l e = inl (sym e)
    at_index (x ∷ xs) (suc i) b l e = inr (at_index xs i b (omega arith) e)

-- a false one is not
pub not_in_state : (s : State) (b : Atom) → contains s b ≡ false → IsIn b (atoms_of s) → ⊥
not_in_state s b h i =
    let (k, low, is) = index_of (atoms_of s) i in
    both_ways _ h (sym (ap (λ t. contains t b) (set_of-atoms_of s)) ∙ (set_of-Contains (atoms_of s) b).1 (k, low, is))
  where
    index_of : (xs : List Atom) → IsIn b xs → (i : ℕ) × (i < length xs) × (get_or xs i b ≡ b)
    index_of [] i = absurd i
    index_of (x ∷ xs) (inl e) = (0, omega arith, sym e)
    index_of (x ∷ xs) (inr i) = let (k, low, is) = index_of xs i in (suc k, omega arith, is)

-- deletes come first, and then adds
pub applied : (old next mid new : History) (action : Action) → IsHistory old → IsNextOf old next → AreTurned next mid (atoms_of action.deletes) false
    → AreTurned mid new (atoms_of action.adds) true → IsApplied old new action
applied old next mid new action is n deleted added = record {
  initial = added.past.initial ∙ deleted.past.initial ∙ n.initial;
  last = last;
  before = λ b k h.
      added.past.before b k (let e = n.last in let f = deleted.past.last in omega arith) ∙ deleted.past.before b k (let e = n.last in omega arith) ∙ next_truth old next n b k;
  here = λ b. subst (λ k. truth new b k ≡ (contains action.adds b || (truth old b old.last && not (contains action.deletes b)))) (sym (last ∙ sym n.last))
      (here b (contains action.adds b) (contains action.deletes b) refl refl);
}
  where
    last : new.last ≡ suc old.last
    last = added.past.last ∙ deleted.past.last ∙ n.last

    at_next : (b : Atom) (v : Bool) → truth new b mid.last ≡ v → truth new b next.last ≡ v
    at_next b v h = subst (λ k. truth new b k ≡ v) deleted.past.last h

    with_false : (v : Bool) → false ≡ (v && false)
    with_false true = refl
    with_false false = refl

    with_true : (v : Bool) → v ≡ (v && true)
    with_true true = refl
    with_true false = refl

    kept : (b : Atom) (a d : Bool) → contains action.adds b ≡ false → contains action.deletes b ≡ d → truth new b next.last ≡ (truth old b old.last && not d)
    kept b a true no_add del =
        at_next b _ (added.others b (not_in_state action.adds b no_add) ∙ (subst (λ k. truth mid b k ≡ false) (sym deleted.past.last) (deleted.these b (in_state action.deletes b del))))
        ∙ with_false (truth old b old.last)
    kept b a false no_add del =
        at_next b _ (added.others b (not_in_state action.adds b no_add) ∙ (subst (λ k. truth mid b k ≡ truth old b old.last) (sym deleted.past.last)
        (deleted.others b (not_in_state action.deletes b del) ∙ settled old next is n b)))
        ∙ with_true (truth old b old.last)

    here : (b : Atom) (a d : Bool) → contains action.adds b ≡ a → contains action.deletes b ≡ d
        → truth new b next.last ≡ (contains action.adds b || (truth old b old.last && not (contains action.deletes b)))
    here b true d add del = at_next b true (added.these b (in_state action.adds b add)) ∙ sym (ap (λ v. v || (truth old b old.last && not (contains action.deletes b))) add)
    here b false d add del = kept b false d add del ∙ ap₂ (λ v w. v || (truth old b old.last && not w)) (sym add) (sym del)
