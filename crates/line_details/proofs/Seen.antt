-- What loops over the nodes and the positions of a network have seen.
use Rattle.std.proofs.Common.{◌≡◌, ℕ, zero, suc, ◌+◌, ◌<◌, Bool, true, false, List, [], ◌∷◌, length, get_or, take, set, Option, Some, slice_get, inl, inr, sym, refl, ap, ◌∙◌, subst, arith}
use Rattle.std.proofs.lemmas.Bool.{cases_lt, true_from_ne_false}
use Rattle.std.proofs.lemmas.List.{get_or_read, take_more}
use Rattle.std.proofs.lemmas.Option.{slice_get_read}
use Rattle.htn_ground.specs.Views.{child_view, children_of}
use Rattle.htn_ground.specs.declared.child.Child.{Child as Read}
use Rattle.htn_model.specs.Fits.{subtask_positions}
use Rattle.htn_model.specs.PlanFile.{IsIn, IsRearrangementOf}
use Rattle.htn_model.specs.Problem.{Child, precondition, action, task, Order, is_before}
use Rattle.htn_model.proofs.Laid.{IsSubtask, in_subtasks, subtask_at, subtasks_distinct}
use Rattle.htn_model.proofs.Proper.{same_members}
use Rattle.plan_text.specs.Reached.{AreMet}
use Rattle.plan_text.proofs.Walked.{one_met}
use Rattle.plan_room.specs.Seats.{is_step_at}
use Rattle.plan_room.proofs.Windowed.{node_at}
use Rattle.line_details.specs.Entries.{AreSubtasksMarked}

-- one option holds one value
pub one_value : {X : Type 0} (o : Option X) (x y : X) → o ≡ Some x → o ≡ Some y → x ≡ y
one_value o x y e h = cc

-- what holds of each node before a place
abbrev pub NodesBefore : (ℕ → Child → Type 0) → List Child → ℕ → Type 0
NodesBefore P nodes n = (a : ℕ) (node : Child) → a < n → slice_get nodes a ≡ Some node → P a node

-- and of the one at it
pub node_more : (P : ℕ → Child → Type 0) (xs : List Read) (n : ℕ) (v : Read) → n < length xs → v ≡ get_or xs n v → P n (child_view v)
    → NodesBefore P (children_of xs) n → NodesBefore P (children_of xs) (n + 1)
node_more P xs n v low is here before a node less at = elim (cases_lt a n) [
  | inl l ↦ before a node l at
  | inr h ↦ (let same : a ≡ n = omega arith in
      let there = node_at xs (children_of xs) n v refl low is in
      let node_is : child_view v ≡ node = one_value (slice_get (children_of xs) n) (child_view v) node there (ap (slice_get (children_of xs)) (sym same) ∙ at) in
      subst (λ k. P k node) (sym same) (subst (P n) node_is here))
]

-- what holds of each item before a place, and of the one at it
pub item_more : {X : Type 0} (P : ℕ → X → Type 0) (xs : List X) (n : ℕ) (x : X) → n < length xs → x ≡ get_or xs n x → P n x
    → ((j : ℕ) (y : X) → j < n → slice_get xs j ≡ Some y → P j y) → (j : ℕ) (y : X) → j < n + 1 → slice_get xs j ≡ Some y → P j y
item_more P xs n x low is here before j y less at = elim (cases_lt j n) [
  | inl l ↦ before j y l at
  | inr h ↦ (let same : j ≡ n = omega arith in
      let item_is : x ≡ y = one_value (slice_get xs n) x y (slice_get_read xs (length xs) n x refl low is) (ap (slice_get xs) (sym same) ∙ at) in
      subst (λ k. P k y) (sym same) (subst (P n) item_is here))
]

-- a row of an order stands where it says anything
pub row_there : (order : Order) (a b : ℕ) → is_before order a b ≡ true → a < length order
row_there [] a b e = absurd cc
row_there (row ∷ order) zero b e = omega arith
row_there (row ∷ order) (suc a) b e = let h = row_there order a b e in omega arith

-- what holds of each position before one
abbrev pub PositionsBefore : (ℕ → Type 0) → ℕ → Type 0
PositionsBefore P n = (a : ℕ) → a < n → P a

-- and of that one
pub position_more : (P : ℕ → Type 0) (n : ℕ) → P n → PositionsBefore P n → PositionsBefore P (n + 1)
position_more P n here before a less = elim (cases_lt a n) [
  | inl l ↦ before a l
  | inr h ↦ let same : n ≡ a = omega arith in subst P same here
]

-- ## Subtasks

-- what is no step is a subtask
subtask_if : (c : Child) → (true ≡ is_step_at (Some c) → ⊥) → IsSubtask c
subtask_if (precondition literals) none = absurd (none refl)
subtask_if (action g) none = tt
subtask_if (task t) none = tt

-- and the other way round
no_step : (c : Child) → IsSubtask c → is_step_at (Some c) ≡ false
no_step (precondition literals) h = absurd h
no_step (action g) h = refl
no_step (task t) h = refl

-- a node stands at each place below the count
node_there : (nodes : List Child) (a : ℕ) → a < length nodes → (node : Child) × (slice_get nodes a ≡ Some node)
node_there [] a h = absurd (omega arith)
node_there (c ∷ nodes) zero h = (c, refl)
node_there (c ∷ nodes) (suc a) h = node_there nodes a (omega arith)

-- where positions are listed once, and marked, and just the subtasks have marks, the list is one of the subtasks
pub listed_once : (nodes : List Child) (marks : List Bool) (positions : List ℕ) → AreMet marks positions → AreSubtasksMarked nodes marks
    → IsRearrangementOf positions (subtask_positions 0 nodes)
listed_once nodes marks positions met are = same_members positions (subtask_positions 0 nodes) met.once (subtasks_distinct 0 nodes) to from
  where
    to : (a : ℕ) → IsIn a positions → IsIn a (subtask_positions 0 nodes)
    to a i =
        let low = met.within a i in
        let many = are.many in
        let (node, at) = node_there nodes a (omega arith) in
        subst (λ k. IsIn k (subtask_positions 0 nodes)) (let w : 0 + a ≡ a = omega arith in w) (in_subtasks 0 nodes a node at (subtask_if node (λ e. are.each a node at (met.marked a i ∙ e))))

    from : (a : ℕ) → IsIn a (subtask_positions 0 nodes) → IsIn a positions
    from a i =
        let s = subtask_at 0 nodes a i in
        let e = s.is in
        let same : s.offset ≡ a = omega arith in
        met.only a (true_from_ne_false (get_or marks a false) (λ none.
        are.each a s.child (ap (slice_get nodes) (sym same) ∙ s.stands) (none ∙ sym (no_step s.child s.is_subtask))))

-- ## Marks

-- a mark more
pub one_marked : (marks : List Bool) (positions : List ℕ) (n : ℕ) (m : Bool) → AreMet marks (take n positions) → n < length positions
    → get_or positions n 0 < length marks → m ≡ get_or marks (get_or positions n 0) m → m ≡ false
    → AreMet (set marks (get_or positions n 0) true) (take (n + 1) positions)
one_marked marks positions n m met low within is unmarked =
    subst (AreMet (set marks (get_or positions n 0) true)) (sym (take_more positions n 0 low))
    (one_met marks (take n positions) (get_or positions n 0) met within (sym (get_or_read marks (get_or positions n 0) m within is false) ∙ unmarked))
