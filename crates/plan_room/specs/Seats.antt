-- What can stand at the positions of a line's network: the line's children at the subtasks, and each step at its own
-- position.
use Rattle.std.specs.Prelude.{◌≡◌, ℕ, ◌+◌, ◌-◌, ◌≤◌, ◌<◌, ◌&&◌, ◌^◌, Bool, true, false, cond, eqb, ltb, List, length, get_or, Option, Some, None, slice_get}
use Rattle.htn_model.specs.Literal.{Literal}
use Rattle.htn_model.specs.Problem.{Network, Child, precondition, action, task, child_eq, IsSquare}
use Rattle.htn_model.specs.Fits.{child_of, StepFits, Fits, NetworkFits, subtask_positions}
use Rattle.plan_room.specs.Placing.{Room}
use Rattle.plan_room.specs.Matching.{Seating}
use Rattle.plan_room.specs.Lines.{Lines, AreLines, plans_of, IsNetworkOf, IsInitial}

-- ## Lines, with the root at the number past all others

-- the children of a line, or the roots
abbrev pub children_at : Bool → Lines → ℕ → List ℕ
children_at true l i = l.children i
children_at false l i = l.roots

-- the children of a line; behind the last line stand the roots
abbrev pub children_of : Lines → ℕ → List ℕ
children_of l i = children_at (ltb i l.count) l i

-- the network is one of the line's, or an initial one
abbrev pub IsOneAt : Bool → Lines → ℕ → Network → Type 0
IsOneAt true l i network = IsNetworkOf l i network
IsOneAt false l i network = IsInitial l network

-- a network that the line's method or the problem offers
abbrev pub IsOneOf : Lines → ℕ → Network → Type 0
IsOneOf l i = IsOneAt (ltb i l.count) l i

-- everything below the line, or below the roots, has room between two gaps
abbrev pub FitAt : Bool → Lines → ℕ → ℕ → ℕ → Type 0
FitAt true l i g h = Fits l.naming l.problem l.states (l.plan_of i) g h
FitAt false l i g h = (network : Network) × IsInitial l network × NetworkFits l.naming l.problem l.states network (plans_of l.plan_of l.roots) g h

-- everything below the line has room from gap g to gap h
abbrev pub LineFits : Lines → ℕ → ℕ → ℕ → Type 0
LineFits l i = FitAt (ltb i l.count) l i

-- ## Choices: the children by their places in the list, and then a step for each position

-- the node at the position, if there is one, is this one
abbrev pub is_child_at : Option Child → Child → Bool
is_child_at None c = false
is_child_at (Some b) c = child_eq b c

-- the node at the position is a precondition step
abbrev pub is_step_at : Option Child → Bool
is_step_at None = false
is_step_at (Some (precondition literals)) = true
is_step_at (Some (action g)) = false
is_step_at (Some (task t)) = false

module _ (l : Lines) (children : List ℕ) (network : Network) where
  -- a choice may stand at a position: a child where its task stands, a step at its own
  abbrev pub suits_at : ℕ → ℕ → Bool
  suits_at a c = cond (ltb c (length children)) (is_child_at (slice_get network.children a) (child_of (l.plan_of (get_or children c 0))))
      (is_step_at (slice_get network.children a) && eqb c (length children + a))

  -- a step at the position has room
  abbrev pub StepRoom : ℕ → ℕ → ℕ → Type 0
  StepRoom a x y = (x ≤ y) × ((literals : List Literal) × (slice_get network.children a ≡ Some (precondition literals)) × StepFits l.states literals x y)

  -- when a choice has room between two gaps: a child with all below it, a step by its literals
  abbrev pub ChoiceRoom : Room
  ChoiceRoom c x y = (c < length children → Fits l.naming l.problem l.states (l.plan_of (get_or children c 0)) x y)
      × (length children ≤ c → StepRoom (c - length children) x y)

  -- the search for room of a network's choices, by positions in a sequence, from a gap on
  abbrev pub seating_of : List ℕ → ℕ → Seating
  seating_of sequence gap = record {
    order = network.order;
    sequence = sequence;
    gap = gap;
    last = l.actions;
    count = length children + length network.children;
    suits = suits_at;
    room = ChoiceRoom;
  }

  -- as many subtasks as children
  abbrev pub AreAsMany : Type 0
  AreAsMany = length (subtask_positions 0 network.children) ≡ length children

-- the children are lines, and few enough to be numbered with the positions
pub record AreBelow (l : Lines) (children : List ℕ) (network : Network) : Type 0 where
  pub are_lines : AreLines l
  pub low : (i : ℕ) → i < length children → get_or children i 0 < l.count
  pub few : length children + length network.children < 2 ^ 64
  pub square : IsSquare (length network.children) network.order
