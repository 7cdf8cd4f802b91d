-- Small problems with their answers: what the definitions come to.
use Rattle.std.specs.Prelude.{◌≡◌, ℕ, ◌≤◌, [], ◌∷◌, true, false, Some, None}
use Rattle.htn_model.specs.Atom.{Atom}
use Rattle.htn_model.specs.Literal.{atom, equality}
use Rattle.htn_model.specs.Problem.{GroundTask, precondition, action, task, Order, Network}
use Rattle.htn_model.specs.Tree.{leaf, step, compound, no_nodes, node, Solution, IsSolution}
use Rattle.htn_model.specs.Code.{IsCode}
use Rattle.htn_model.specs.Answer.{IsAnswer}
use Rattle.htn_model.specs.Exhaustion.{is_dead, IsMet, IsUnsolvable}
use Rattle.htn_model.specs.Sketch.{SketchAction, Sketch, sketched}

-- an atom without arguments
abbrev pub fact : ℕ → Atom
fact n = record { predicate = n; arguments = [] }

-- a ground task without arguments
abbrev pub named : ℕ → GroundTask
named n = record { name = n; arguments = [] }

-- an action that makes a fact
abbrev pub makes : ℕ → SketchAction
makes n = record { precondition = []; deletes = []; adds = fact n ∷ [] }

-- an action that needs a fact
abbrev pub needs : ℕ → SketchAction
needs n = record { precondition = atom true (fact n) ∷ []; deletes = []; adds = [] }

-- an action that needs nothing and changes nothing
abbrev pub idles : SketchAction
idles = record { precondition = []; deletes = []; adds = [] }

-- the order of one node
abbrev pub one_alone : Order
one_alone = (false ∷ []) ∷ []

-- two nodes in any order
abbrev pub two_unordered : Order
two_unordered = (false ∷ false ∷ []) ∷ (false ∷ false ∷ []) ∷ []

-- two nodes, the first before the second
abbrev pub two_in_order : Order
two_in_order = (false ∷ true ∷ []) ∷ (false ∷ false ∷ []) ∷ []

-- three nodes in any order
abbrev pub three_unordered : Order
three_unordered = (false ∷ false ∷ false ∷ []) ∷ (false ∷ false ∷ false ∷ []) ∷ (false ∷ false ∷ false ∷ []) ∷ []

-- three nodes in sequence
abbrev pub three_in_order : Order
three_in_order = (false ∷ true ∷ true ∷ []) ∷ (false ∷ false ∷ true ∷ []) ∷ (false ∷ false ∷ false ∷ []) ∷ []

-- the network without nodes
abbrev pub nothing : Network
nothing = record { children = []; order = [] }

-- ## An atom both deleted and added is true afterwards

-- one action that deletes a fact and adds it, with the fact as goal
abbrev pub renewing : Sketch
renewing = record {
  initials = record { children = action (named 0) ∷ []; order = one_alone } ∷ [];
  methods = [];
  actions = (named 0, record { precondition = []; deletes = fact 0 ∷ []; adds = fact 0 ∷ [] }) ∷ [];
  changed = 0 ∷ [];
  initial_atoms = [];
  goal = atom true (fact 0) ∷ [];
}

-- that action alone
abbrev pub renewed : Solution
renewed = record { number = 0; trees = node (leaf (named 0)) no_nodes; linearisation = (0 ∷ []) ∷ [] }

-- an atom that an action both deletes and adds is true after it
pub record AddsComeLast : Type 0 where
  pub answer : IsAnswer (sketched renewing) 1 (Some renewed)
  pub too_few : IsAnswer (sketched renewing) 0 None

-- ## A method's precondition is tested at its step's place, which may come after actions that stand beside it

-- a task whose method needs a fact, beside an action that makes the fact, unordered
abbrev pub needing : Sketch
needing = record {
  initials = record { children = task (named 0) ∷ action (named 1) ∷ []; order = two_unordered } ∷ [];
  methods = (named 0, record { children = precondition (atom true (fact 0) ∷ []) ∷ []; order = one_alone } ∷ []) ∷ [];
  actions = (named 1, makes 0) ∷ [];
  changed = 0 ∷ [];
  initial_atoms = [];
  goal = [];
}

-- the other action first, then the step of the precondition
abbrev pub step_last : Solution
step_last = record {
  number = 0;
  trees = node (compound (named 0) 0 (node (step (atom true (fact 0) ∷ [])) no_nodes)) (node (leaf (named 1)) no_nodes);
  linearisation = (1 ∷ []) ∷ (0 ∷ 0 ∷ []) ∷ [];
}

-- the precondition is tested after the action that makes it true
pub record StepsAreTestedInPlace : Type 0 where
  pub answer : IsAnswer (sketched needing) 3 (Some step_last)
  -- the action is at position 1 of the free nodes, though the step before it can't be taken yet
  pub code : IsCode (sketched needing) step_last (0 ∷ 0 ∷ 1 ∷ 0 ∷ [])
  pub too_few : IsAnswer (sketched needing) 2 None

-- ## Of two solutions of one size that of the smaller code is the answer

-- a task with two methods, both of no nodes
abbrev pub two_methods : Sketch
two_methods = record {
  initials = record { children = task (named 0) ∷ []; order = one_alone } ∷ [];
  methods = (named 0, nothing ∷ nothing ∷ []) ∷ [];
  actions = [];
  changed = [];
  initial_atoms = [];
  goal = [];
}

-- the task decomposed by the method of that number
abbrev pub by_method : ℕ → Solution
by_method number = record { number = 0; trees = node (compound (named 0) number no_nodes) no_nodes; linearisation = [] }

-- two actions that change nothing, in any order
abbrev pub two_actions : Sketch
two_actions = record {
  initials = record { children = action (named 0) ∷ action (named 1) ∷ []; order = two_unordered } ∷ [];
  methods = [];
  actions = (named 0, idles) ∷ (named 1, idles) ∷ [];
  changed = [];
  initial_atoms = [];
  goal = [];
}

-- both actions, carried out in these places
abbrev pub first_then : ℕ → ℕ → Solution
first_then a b = record { number = 0; trees = node (leaf (named 0)) (node (leaf (named 1)) no_nodes); linearisation = (a ∷ []) ∷ (b ∷ []) ∷ [] }

-- the first method answers, and the actions as they are declared; the other ways are solutions too
pub record LeastCodeAnswers : Type 0 where
  pub first_method : IsAnswer (sketched two_methods) 1 (Some (by_method 0))
  pub second_method : IsSolution (sketched two_methods) (by_method 1)
  pub declared_order : IsAnswer (sketched two_actions) 2 (Some (first_then 0 1))
  pub other_order : IsSolution (sketched two_actions) (first_then 1 0)
  pub other_code : IsCode (sketched two_actions) (first_then 1 0) (0 ∷ 1 ∷ 0 ∷ [])

-- ## An order through a task stays where its network is empty

-- an action, a task with an empty method, and another action, in this order
abbrev pub chain : SketchAction → SketchAction → Sketch
chain x y = record {
  initials = record { children = action (named 1) ∷ task (named 0) ∷ action (named 2) ∷ []; order = three_in_order } ∷ [];
  methods = (named 0, nothing ∷ []) ∷ [];
  actions = (named 1, x) ∷ (named 2, y) ∷ [];
  changed = 0 ∷ [];
  initial_atoms = [];
  goal = [];
}

-- the two actions around the task that has no nodes
abbrev pub chained : Solution
chained = record {
  number = 0;
  trees = node (leaf (named 1)) (node (compound (named 0) 0 no_nodes) (node (leaf (named 2)) no_nodes));
  linearisation = (0 ∷ []) ∷ (2 ∷ []) ∷ [];
}

-- the second action comes after the first, so one that needs what the other makes can't come first
pub record OrderGoesThroughEmptyTasks : Type 0 where
  pub answer : IsAnswer (sketched (chain (makes 0) (needs 0))) 4 (Some chained)
  pub other_way : IsUnsolvable (sketched (chain (needs 0) (makes 0)))
  pub within : (bound : ℕ) → 3 ≤ bound → IsMet (sketched (chain (needs 0) (makes 0))) bound → ⊥

-- ## All children of a decomposed task have its order towards the others

-- a task is before an action that makes a fact, and its method has three unordered actions, of which the second needs
-- the fact
abbrev pub three_before : Sketch
three_before = record {
  initials = record { children = task (named 0) ∷ action (named 1) ∷ []; order = two_in_order } ∷ [];
  methods = (named 0, record { children = action (named 2) ∷ action (named 3) ∷ action (named 2) ∷ []; order = three_unordered } ∷ []) ∷ [];
  actions = (named 1, makes 0) ∷ (named 2, idles) ∷ (named 3, needs 0) ∷ [];
  changed = 0 ∷ [];
  initial_atoms = [];
  goal = [];
}

-- an action that comes before a task comes before its children, so there is no solution
abbrev pub ChildrenInheritOrder : Type 0
ChildrenInheritOrder = IsUnsolvable (sketched three_before)

-- ## Endless decomposition

-- a task whose one method has this network
abbrev pub endless : Network → Sketch
endless network = record {
  initials = record { children = task (named 0) ∷ []; order = one_alone } ∷ [];
  methods = (named 0, network ∷ []) ∷ [];
  actions = [];
  changed = [];
  initial_atoms = [];
  goal = [];
}

-- a task that leads to itself alone
abbrev pub itself : Sketch
itself = endless (record { children = task (named 0) ∷ []; order = one_alone })

-- a task that leads to itself twice
abbrev pub twice : Sketch
twice = endless (record { children = task (named 0) ∷ task (named 0) ∷ []; order = two_unordered })

-- one configuration comes back for ever, or ever larger ones
pub record EndlessTasks : Type 0 where
  pub itself_unsolvable : IsUnsolvable (sketched itself)
  pub itself_within : (bound : ℕ) → 1 ≤ bound → IsMet (sketched itself) bound → ⊥
  pub twice_unsolvable : IsUnsolvable (sketched twice)
  pub twice_beyond : (bound : ℕ) → IsMet (sketched twice) bound

-- ## Which initial network, and which instance

-- two initial networks, each with an action of its own
abbrev pub touching : Sketch
touching = record {
  initials =
      record { children = action (record { name = 0; arguments = 1 ∷ [] }) ∷ []; order = one_alone }
      ∷ record { children = action (record { name = 0; arguments = 2 ∷ [] }) ∷ []; order = one_alone } ∷ [];
  methods = [];
  actions = (record { name = 0; arguments = 1 ∷ [] }, idles) ∷ (record { name = 0; arguments = 2 ∷ [] }, idles) ∷ [];
  changed = [];
  initial_atoms = [];
  goal = [];
}

-- an initial network with one action on an object
abbrev pub touched : ℕ → ℕ → Solution
touched number object = record { number = number; trees = node (leaf (record { name = 0; arguments = object ∷ [] })) no_nodes; linearisation = (0 ∷ []) ∷ [] }

-- a network that tests one fact of an object
abbrev pub having : ℕ → Network
having object = record { children = precondition (atom true (record { predicate = 0; arguments = object ∷ [] }) ∷ []) ∷ []; order = one_alone }

-- two instances of one method, of which one needs what is true
abbrev pub hidden : Sketch
hidden = record {
  initials = record { children = task (named 0) ∷ []; order = one_alone } ∷ [];
  methods = (named 0, having 0 ∷ having 1 ∷ []) ∷ [];
  actions = [];
  changed = [];
  initial_atoms = record { predicate = 0; arguments = 1 ∷ [] } ∷ [];
  goal = [];
}

-- the task decomposed by its second instance
abbrev pub had : Solution
had = record {
  number = 0;
  trees = node (compound (named 0) 1 (node (step (atom true (record { predicate = 0; arguments = 1 ∷ [] }) ∷ [])) no_nodes)) no_nodes;
  linearisation = (0 ∷ 0 ∷ []) ∷ [];
}

-- the code begins with the number of the initial network, and has that of each instance
pub record NumbersAreChosen : Type 0 where
  pub first_network : IsAnswer (sketched touching) 1 (Some (touched 0 1))
  pub second_network : IsSolution (sketched touching) (touched 1 2)
  pub second_instance : IsAnswer (sketched hidden) 2 (Some had)
  pub instance_code : IsCode (sketched hidden) had (0 ∷ 1 ∷ 0 ∷ [])
  -- the number of the other instance is dead
  pub first_dead : is_dead (sketched hidden) (having 0) ≡ true
  pub second_alive : is_dead (sketched hidden) (having 1) ≡ false
  -- and so is that of a step with a false equality, also where all predicates change
  pub equality_dead : is_dead (sketched renewing) (record { children = precondition (equality true 0 1 ∷ []) ∷ []; order = one_alone }) ≡ true
  pub inequality_dead : is_dead (sketched renewing) (record { children = precondition (equality false 1 1 ∷ []) ∷ []; order = one_alone }) ≡ true
  pub changed_alive : is_dead (sketched renewing) (record { children = precondition (atom true (fact 0) ∷ equality true 1 1 ∷ []) ∷ []; order = one_alone }) ≡ false
