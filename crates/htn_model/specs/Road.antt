-- A truck that drives by road: the instances in their order, the answer and its code.
use Rattle.std.specs.Prelude.{ℕ, List, [], ◌∷◌, map, flat_map, true, Some, None}
use Rattle.htn_model.specs.Atom.{Atom}
use Rattle.htn_model.specs.Literal.{Literal, atom}
use Rattle.htn_model.specs.Problem.{GroundTask, precondition, action, task, Network}
use Rattle.htn_model.specs.Tree.{Node, leaf, step, compound, no_nodes, node, Solution}
use Rattle.htn_model.specs.Code.{IsCode}
use Rattle.htn_model.specs.Answer.{IsAnswer}
use Rattle.htn_model.specs.Sketch.{SketchAction, Sketch, sketched}
use Rattle.htn_model.specs.Examples.{one_alone, three_in_order}

-- the places are 0, 1 and 2, and the truck is 3
abbrev pub places : List ℕ
places = 0 ∷ 1 ∷ 2 ∷ []

-- a road leads from a place to another
abbrev pub road : ℕ → ℕ → Atom
road a b = record { predicate = 0; arguments = a ∷ b ∷ [] }

-- the truck is at a place
abbrev pub truck_at : ℕ → Atom
truck_at p = record { predicate = 1; arguments = 3 ∷ p ∷ [] }

-- the task that the truck gets to a place
abbrev pub go : ℕ → GroundTask
go p = record { name = 0; arguments = 3 ∷ p ∷ [] }

-- the action that the truck drives from a place to another
abbrev pub drive : ℕ → ℕ → GroundTask
drive a b = record { name = 1; arguments = 3 ∷ a ∷ b ∷ [] }

-- the truck is at the first place, and a road leads to the second
abbrev pub can_drive : ℕ → ℕ → List Literal
can_drive a b = atom true (truck_at a) ∷ atom true (road a b) ∷ []

-- stay where the truck is
abbrev pub stay : ℕ → Network
stay p = record { children = precondition (atom true (truck_at p) ∷ []) ∷ []; order = one_alone }

-- drive from a to b, and go on to p
abbrev pub drive_on : ℕ → ℕ → ℕ → Network
drive_on p a b = record { children = precondition (can_drive a b) ∷ action (drive a b) ∷ task (go p) ∷ []; order = three_in_order }

-- one for each two places
abbrev pub for_pairs : {X : Type 0} → (ℕ → ℕ → X) → List X
for_pairs f = flat_map (λ a. map (f a) places) places

-- the action with its precondition and effects
abbrev pub driving : ℕ → ℕ → GroundTask × SketchAction
driving a b = (drive a b, record { precondition = can_drive a b; deletes = truck_at a ∷ []; adds = truck_at b ∷ [] })

-- from 0 to 2, where roads lead from 0 to 1 and from 1 to 2
abbrev pub trip : Sketch
trip = record {
  initials = record { children = task (go 2) ∷ []; order = one_alone } ∷ [];
  methods = map (λ p. (go p, stay p ∷ for_pairs (drive_on p))) places;
  actions = for_pairs driving;
  changed = 1 ∷ [];
  initial_atoms = truck_at 0 ∷ road 0 1 ∷ road 1 2 ∷ [];
  goal = [];
}

-- a drive from a to b by the instance of that number, and what comes after
abbrev pub driven : ℕ → ℕ → ℕ → Node → Node
driven number a b rest = compound (go 2) number (node (step (can_drive a b)) (node (leaf (drive a b)) (node rest no_nodes)))

-- drive to the second place and then to the third, and stay
abbrev pub trip_plan : Solution
trip_plan = record {
  number = 0;
  trees = node (driven 2 0 1 (driven 6 1 2 (compound (go 2) 0 (node (step (atom true (truck_at 2) ∷ [])) no_nodes)))) no_nodes;
  linearisation = (0 ∷ 0 ∷ []) ∷ (0 ∷ 1 ∷ []) ∷ (0 ∷ 2 ∷ 0 ∷ []) ∷ (0 ∷ 2 ∷ 1 ∷ []) ∷ (0 ∷ 2 ∷ 2 ∷ 0 ∷ []) ∷ [];
}

-- three tasks, two drives and three steps
pub record TripIsPlanned : Type 0 where
  pub answer : IsAnswer (sketched trip) 8 (Some trip_plan)
  pub code : IsCode (sketched trip) trip_plan (0 ∷ 2 ∷ 0 ∷ 0 ∷ 6 ∷ 0 ∷ 0 ∷ 0 ∷ 0 ∷ [])
  pub too_few : IsAnswer (sketched trip) 7 None
