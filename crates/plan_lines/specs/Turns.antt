-- Truth by turns: what is true at first, and the gaps at which it turned.
use Rattle.std.specs.Prelude.{◌≡◌, ℕ, zero, suc, ◌≤◌, ◌<◌, List, [], ◌∷◌, length, get_or, Option, Some, None, Bool, true, false, cond, not, nat_eq, ltb, ◌||◌, ◌&&◌, refl}
use Rattle.std.specs.Coded.{Coded, code_by, coded×, coded_ℕ, coded_list}
use Rattle.std.specs.List.{list_all, position_or_len}
use Rattle.htn_model.specs.Atom.{Atom, atom_code, atom_eq}
use Rattle.htn_model.specs.State.{State, state_code, contains, atoms_of}
use Rattle.htn_model.specs.Literal.{Literal, atom, equality, Action}
use Rattle.htn_model.specs.PlanFile.{IsIn}

-- whether something is true in gap k that is so at first or not, and turns in these gaps, ascending
abbrev pub is_true_in : (first : Bool) → List ℕ → ℕ → Bool
is_true_in first [] k = first
is_true_in first (t ∷ turns) k = cond (ltb k t) first (is_true_in (not first) turns k)

-- what is so at first or not, after that many turns
abbrev pub is_turned : (first : Bool) → ℕ → Bool
is_turned first zero = first
is_turned first (suc turns) = is_turned (not first) turns

-- the gaps ascend, up to the last one
pub record IsRising (last : ℕ) (turns : List ℕ) : Type 0 where
  pub rising : (i j : ℕ) → i < j → j < length turns → get_or turns i 0 < get_or turns j 0
  pub low : (i : ℕ) → i < length turns → get_or turns i 0 ≤ last

-- exactly the first `passed` gaps are at this one or before it
pub record Splits (turns : List ℕ) (gap passed : ℕ) : Type 0 where
  pub low : (i : ℕ) → i < passed → get_or turns i 0 ≤ gap
  pub high : (i : ℕ) → passed ≤ i → i < length turns → gap < get_or turns i 0
  pub within : passed ≤ length turns

-- the truth is negated from this gap on, and before it nothing changes
pub record IsTurnedOver (old new : List ℕ) (gap : ℕ) : Type 0 where
  pub rising : IsRising gap new
  pub before : (first : Bool) (k : ℕ) → k < gap → is_true_in first new k ≡ is_true_in first old k
  pub here : (first : Bool) → is_true_in first new gap ≡ not (is_true_in first old gap)

-- the state at first, the last gap, and atoms with the gaps at which they turned
pub record History : Type 0 where
  pub initial : State
  pub last : ℕ
  pub atoms : List Atom
  pub turns : List (List ℕ)

-- a history is stored as the tuple of its fields
abbrev pub history_code : Coded History
history_code =
    code_by (State × (ℕ × (List Atom × List (List ℕ)))) (coded× state_code (coded× coded_ℕ (coded× (coded_list atom_code) (coded_list (coded_list coded_ℕ)))))
    (λ h. (h.initial, (h.last, (h.atoms, h.turns)))) (λ p. record { initial = p.0; last = p.1.0; atoms = p.1.1.0; turns = p.1.1.1 }) (λ _. refl)

-- the gaps at which an atom turned
abbrev pub turns_of : History → Atom → List ℕ
turns_of h a = get_or h.turns (position_or_len (atom_eq a) h.atoms) []

-- whether an atom is true in a gap
abbrev pub truth : History → Atom → ℕ → Bool
truth h a k = is_true_in (contains h.initial a) (turns_of h a) k

-- the atoms that are true at first come first, and each atom has its turns, ascending
pub record IsHistory (h : History) : Type 0 where
  pub as_many : length h.turns ≡ length h.atoms
  pub rising : (i : ℕ) → IsRising h.last (get_or h.turns i [])
  pub many : length (atoms_of h.initial) ≤ length h.atoms
  pub first : (a : Atom) → contains h.initial a ≡ ltb (position_or_len (atom_eq a) h.atoms) (length (atoms_of h.initial))

-- no atom has turned yet
pub record IsStart (initial : State) (h : History) : Type 0 where
  pub history : IsHistory h
  pub initial_is : h.initial ≡ initial
  pub last : h.last ≡ 0
  pub unturned : (a : Atom) → turns_of h a ≡ []

-- the atom is true in some gap
abbrev pub IsEverTrue : History → Atom → Type 0
IsEverTrue h a = (k : ℕ) × (k ≤ h.last) × (truth h a k ≡ true)

-- ## Literals

-- a literal is true in a gap of the history
abbrev pub literal_truth : History → Literal → ℕ → Bool
literal_truth h (atom true a) k = truth h a k
literal_truth h (atom false a) k = not (truth h a k)
literal_truth h (equality true x y) k = nat_eq x y
literal_truth h (equality false x y) k = not (nat_eq x y)

-- whether all literals hold in a gap
abbrev pub literals_truth : History → List Literal → ℕ → Bool
literals_truth h literals k = list_all (λ l. literal_truth h l k) literals

-- the first gap from one on, up to the last of them, that passes the test, if there is one
abbrev pub IsNextGap : (ℕ → Bool) → (from last : ℕ) → Option ℕ → Type 0
IsNextGap test from last None = (k : ℕ) → from ≤ k → k ≤ last → test k ≡ false
IsNextGap test from last (Some gap) = (from ≤ gap) × (gap ≤ last) × (test gap ≡ true) × ((k : ℕ) → from ≤ k → k < gap → test k ≡ false)

-- a gap from one on, up to the last of them, before which none passes, and that passes if it is the same one; or that
-- none does
abbrev pub IsOnward : (ℕ → Bool) → (from last : ℕ) → Option ℕ → Type 0
IsOnward test from last None = (k : ℕ) → from ≤ k → k ≤ last → test k ≡ false
IsOnward test from last (Some gap) = (from ≤ gap) × (gap ≤ last) × ((k : ℕ) → from ≤ k → k < gap → test k ≡ false) × (gap ≡ from → test from ≡ true)

-- the last gap up to one that passes the test, if there is one
abbrev pub IsLastGap : (ℕ → Bool) → (gap : ℕ) → Option ℕ → Type 0
IsLastGap test gap None = (k : ℕ) → k ≤ gap → test k ≡ false
IsLastGap test gap (Some last) = (last ≤ gap) × (test last ≡ true) × ((k : ℕ) → last < k → k ≤ gap → test k ≡ false)

-- ## Steps

-- the gaps before the last one are as they were
pub record KeepsPast (old new : History) : Type 0 where
  pub initial : new.initial ≡ old.initial
  pub last : new.last ≡ old.last
  pub before : (b : Atom) (k : ℕ) → k < old.last → truth new b k ≡ truth old b k

-- in the last gap these atoms have the value, and the others what they had
pub record AreTurned (old new : History) (atoms : List Atom) (value : Bool) : Type 0 where
  pub past : KeepsPast old new
  pub these : (b : Atom) → IsIn b atoms → truth new b old.last ≡ value
  pub others : (b : Atom) → (IsIn b atoms → ⊥) → truth new b old.last ≡ truth old b old.last

-- one gap more, in which an action's effects show
pub record IsApplied (old new : History) (action : Action) : Type 0 where
  pub initial : new.initial ≡ old.initial
  pub last : new.last ≡ suc old.last
  pub before : (b : Atom) (k : ℕ) → k ≤ old.last → truth new b k ≡ truth old b k
  pub here : (b : Atom) → truth new b new.last ≡ (contains action.adds b || (truth old b old.last && not (contains action.deletes b)))
