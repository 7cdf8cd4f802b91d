-- A small problem in frames, computed: a task with one instance, an action that needs fact 1, deletes it and adds
-- fact 2. Fact 0 is in the goal alone.
use Rattle.std.specs.Prelude.{◌≡◌, ℕ, zero, suc, ◌≤◌, ◌||◌, List, [], ◌∷◌, length, get_or, true, cond, nat_eq, Some, None}
use Rattle.htn_model.specs.State.{State, set_of}
use Rattle.htn_model.specs.Literal.{atom}
use Rattle.htn_model.specs.Problem.{precondition, action, task, Network, Problem, perform}
use Rattle.htn_model.specs.Sketch.{Sketch, sketched}
use Rattle.htn_model.specs.Examples.{fact, named}
use Rattle.htn_calls.specs.Calls.{Summary, Table, Rules, estimate}
use Rattle.htn_calls.specs.Bounds.{is_goal}
use Rattle.htn_calls.specs.Ordered.{lone}
use Rattle.call_rules.specs.Frame.{Frame, within, beyond, lift}
use Rattle.call_rules.specs.Local.{IsFrameOf}
use Rattle.call_rules.specs.Framed.{framed}
use Rattle.call_rules.specs.Closed.{AreClosedIn}
use Rattle.call_rules.specs.FramedValues.{AreValuesIn}
use Rattle.call_rules.specs.Lifted.{IsLiftedCall}

-- the problem
abbrev pub moving_sketch : Sketch
moving_sketch = record {
  initials = lone (task (named 0)) ∷ [];
  methods = (named 0, lone (action (named 1)) ∷ []) ∷ [];
  actions =
      (named 1, record { precondition = atom true (fact 1) ∷ []; deletes = fact 1 ∷ []; adds = fact 2 ∷ [] }) ∷ [];
  changed = 1 ∷ 2 ∷ [];
  initial_atoms = fact 0 ∷ fact 1 ∷ [];
  goal = atom true (fact 0) ∷ atom true (fact 2) ∷ [];
}

abbrev pub moving : Problem
moving = sketched moving_sketch

-- the states 0 and 1, before the action and after it, are parts in its frame of the states 2 and 3
abbrev pub state : ℕ → State
state number =
    set_of (get_or ((fact 1 ∷ []) ∷ (fact 2 ∷ []) ∷ (fact 0 ∷ fact 1 ∷ []) ∷ (fact 0 ∷ fact 2 ∷ []) ∷ []) number [])

-- node 0 is the task, and node 1 the action
abbrev pub block : ℕ → Network
block zero = lone (task (named 0))
block (suc k) = lone (action (named 1))

-- one fact, and two
abbrev pub only : ℕ → Frame
only p a = nat_eq a.predicate p

abbrev pub either : ℕ → ℕ → Frame
either p q a = only p a || only q a

-- the frame of the action, with any one for the task
abbrev pub frame_by : Frame → ℕ → Frame
frame_by of_task zero = of_task
frame_by of_task (suc k) = either 1 2

-- the frames of both, which have all that the action reads and writes
abbrev pub frame : ℕ → Frame
frame = frame_by (either 1 2)

-- the instance of the task, and what the action does
abbrev pub rules : Rules ℕ ℕ
rules zero zero = Some (record { state = 0; blocks = 1 ∷ [] } ∷ [])
rules zero (suc k) = Some (record { state = 1; blocks = [] } ∷ [])
rules (suc i) j = None

-- a summary with one exit, and a floor far above
abbrev pub one_exit : {S : Type 0} → S → ℕ → Summary S
one_exit s cost = record { exits = record { state = s; cost = cost } ∷ []; floor = 9 }

-- the calls of both before the action; the task ends in two steps, which the table may count otherwise
abbrev pub listing : ℕ → Table ℕ ℕ
listing cost zero zero = Some (one_exit 1 cost)
listing cost zero (suc zero) = Some (one_exit 1 1)
listing cost zero (suc (suc k)) = None
listing cost (suc i) j = None

-- a value of the task in state 2, and nothing for other lists of nodes
abbrev pub value : ℕ → List ℕ → ℕ → ℕ
value least [] i = cond (is_goal moving (state i)) 0 9
value least (zero ∷ []) i = get_or (0 ∷ 0 ∷ least ∷ []) i 0
value least (zero ∷ j ∷ rest) i = 0
value least (suc k ∷ rest) i = 0

-- ## What the definitions come to

-- a frame parts a state, and lifting changes just what is in the frame, by what the part has there
pub record StatesArePartedSo : Type 0 where
  pub inside : within (either 1 2) (state 2) ≡ state 0
  pub outside : beyond (either 1 2) (state 2) ≡ set_of (fact 0 ∷ [])
  pub lifted : lift (either 1 2) (state 2) (state 1) ≡ state 3
  pub of_part : lift (either 1 2) (state 0) (state 3) ≡ state 1
  pub apart : within (either 1 2) (state 2) ≡ within (either 1 2) (state 3) → ⊥

-- a frame of the action has what it reads and what it writes, and in its part it does what it does in the whole state
pub record NodesHaveFramesSo : Type 0 where
  pub both : IsFrameOf moving (action (named 1)) (either 1 2)
  pub unread : IsFrameOf moving (action (named 1)) (only 2) → ⊥
  pub unwritten : IsFrameOf moving (action (named 1)) (only 1) → ⊥
  pub in_part : perform moving (state 0) (action (named 1)) ≡ Some (state 1)
  pub in_whole : perform moving (state 2) (action (named 1)) ≡ Some (state 3)

-- the call of the task in a part is one in each state with that part, where its exit keeps what is out of the frame; a
-- call in a whole state is lifted from it if its exit does; and the bound of the task is its two steps
pub record CallsAreLiftedSo : Type 0 where
  pub in_part : framed state block frame (listing 2) ((0, 0) ∷ []) (state 0) (block 0) ≡ Some (one_exit (state 1) 2)
  pub in_whole : framed state block frame (listing 2) ((0, 0) ∷ []) (state 2) (block 0) ≡ Some (one_exit (state 3) 2)
  pub elsewhere : framed state block frame (listing 2) ((0, 0) ∷ []) (state 3) (block 0) ≡ None
  pub lifted : IsLiftedCall state block frame (listing 2) 2 0 (one_exit 3 2)
  pub lost : IsLiftedCall state block frame (listing 2) 2 0 (one_exit 1 2) → ⊥
  pub bound : estimate (framed state block frame (listing 2) ((0, 0) ∷ [])) (λ s. length) length (is_goal moving) 9
      (block 0 ∷ []) (state 2) ≡ 2

-- calls are closed if the task's cost is no more than its two steps, and its frame has that of the action
pub record CallsCloseSo : Type 0 where
  pub closed : (cost : ℕ) → cost ≤ 2 → AreClosedIn state frame rules (listing cost) length
  pub too_dear : (cost : ℕ) → 3 ≤ cost → AreClosedIn state frame rules (listing cost) length → ⊥
  pub too_narrow : AreClosedIn state (frame_by (only 1)) rules (listing 2) length → ⊥

-- and values are supported by them that are no more than these two steps
pub record ValuesAreSo : Type 0 where
  pub valued : (least : ℕ) → least ≤ 2
      → AreValuesIn state frame (either 0 2) (listing 2) length (is_goal moving) 9 (value least)
  pub too_great : (least : ℕ) → 3 ≤ least
      → AreValuesIn state frame (either 0 2) (listing 2) length (is_goal moving) 9 (value least) → ⊥
