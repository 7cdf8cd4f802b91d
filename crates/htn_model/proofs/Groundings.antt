-- Small tasks, whose instances are computed by the definitions.
use Rattle.std.proofs.Common.{Bool, List, None, Option, Some, [], cond, false, length, map, refl, slice_get, true, ℕ, ◌∷◌, ◌≡◌}
use Rattle.htn_model.specs.Atom.{Atom}
use Rattle.htn_model.specs.State.{set_of}
use Rattle.htn_model.specs.Literal.{Action, Literal, atom, equality}
use Rattle.htn_model.specs.Problem as problem
use Rattle.htn_model.specs.Problem.{GroundTask, Network}
use Rattle.htn_model.specs.Instance.{Instance}
use Rattle.htn_model.specs.Schema.{AtomSchema, EqualitySchema, Formula, Name, NetworkSchema, TaskSchema, Term, equation, for_all, formulas_of, literal, object, parameter}
use Rattle.htn_model.specs.Task.{ActionSchema, Declaration, InitialSchema, MethodSchema, ObjectType, Task}
use Rattle.htn_model.specs.Instances.{action_of, initials, methods_of}

-- a declaration of that name and these types
abbrev called : ℕ → List ℕ → Declaration
called name types = record { name = name ∷ []; types = types }

-- a type of that name with these objects
abbrev of_type : ℕ → List ℕ → ObjectType
of_type name objects = record { name = name ∷ []; objects = objects }

-- an atom with these terms
abbrev at_terms : ℕ → List Term → AtomSchema
at_terms predicate arguments = record { predicate = predicate; arguments = arguments }

-- a task with these terms
abbrev task_at : ℕ → List Term → TaskSchema
task_at name arguments = record { name = name; arguments = arguments }

-- a ground task
abbrev ground_at : ℕ → List ℕ → GroundTask
ground_at name arguments = record { name = name; arguments = arguments }

-- a positive ground literal
abbrev fact : ℕ → List ℕ → Literal
fact predicate arguments = atom true (record { predicate = predicate; arguments = arguments })

-- a task that declares objects alone
abbrev only_objects : Task
only_objects = record {
  objects = [];
  types = [];
  predicates = [];
  tasks = [];
  methods = [];
  actions = [];
  initial_network = record { parameters = []; constraints = []; network = record { subtasks = []; order = [] } };
  initial_atoms = set_of [];
  goal = [];
}

-- ## A truck that goes from place to place

-- the method of who is there
abbrev stay : MethodSchema
stay = record {
  name = 0 ∷ [];
  parameters = 2 ∷ 1 ∷ [];
  task = task_at 0 (parameter 0 ∷ parameter 1 ∷ []);
  precondition = literal true (at_terms 1 (parameter 0 ∷ parameter 1 ∷ [])) ∷ [];
  constraints = [];
  network = record { subtasks = []; order = [] };
}

-- the method that drives one road further
abbrev drive_step : MethodSchema
drive_step = record {
  name = 1 ∷ [];
  parameters = 2 ∷ 1 ∷ 1 ∷ 1 ∷ [];
  task = task_at 0 (parameter 0 ∷ parameter 3 ∷ []);
  precondition = literal true (at_terms 1 (parameter 0 ∷ parameter 1 ∷ [])) ∷ literal true (at_terms 0 (parameter 1 ∷ parameter 2 ∷ [])) ∷ [];
  constraints = [];
  network = record {
    subtasks = task_at 1 (parameter 0 ∷ parameter 1 ∷ parameter 2 ∷ []) ∷ task_at 0 (parameter 0 ∷ parameter 3 ∷ []) ∷ [];
    order = (false ∷ true ∷ []) ∷ (false ∷ false ∷ []) ∷ [];
  };
}

-- the action that drives along a road
abbrev drive : ActionSchema
drive = record {
  name = 2 ∷ [];
  parameters = 2 ∷ 1 ∷ 1 ∷ [];
  precondition = literal true (at_terms 1 (parameter 0 ∷ parameter 1 ∷ [])) ∷ literal true (at_terms 0 (parameter 1 ∷ parameter 2 ∷ [])) ∷ [];
  deletes = at_terms 1 (parameter 0 ∷ parameter 1 ∷ []) ∷ [];
  adds = at_terms 1 (parameter 0 ∷ parameter 2 ∷ []) ∷ [];
}

-- the places a, b and c are objects 0, 1 and 2, the truck is object 3; roads lead from a to b and from b to c
abbrev road : Task
road = record only_objects {
  objects = (0 ∷ []) ∷ (1 ∷ []) ∷ (2 ∷ []) ∷ (3 ∷ []) ∷ [];
  types = of_type 0 (0 ∷ 1 ∷ 2 ∷ 3 ∷ []) ∷ of_type 1 (0 ∷ 1 ∷ 2 ∷ []) ∷ of_type 2 (3 ∷ []) ∷ [];
  predicates = called 0 (1 ∷ 1 ∷ []) ∷ called 1 (2 ∷ 1 ∷ []) ∷ [];
  tasks = called 0 (2 ∷ 1 ∷ []) ∷ [];
  methods = stay ∷ drive_step ∷ [];
  actions = drive ∷ [];
  initial_network = record { parameters = []; constraints = []; network = record { subtasks = task_at 0 (object 3 ∷ object 2 ∷ []) ∷ []; order = (false ∷ []) ∷ [] } };
  initial_atoms =
      set_of (record { predicate = 1; arguments = 3 ∷ 0 ∷ [] } ∷ record { predicate = 0; arguments = 0 ∷ 1 ∷ [] } ∷ record { predicate = 0; arguments = 1 ∷ 2 ∷ [] } ∷ []);
}

-- get the truck to the third place
abbrev go_to_c : GroundTask
go_to_c = ground_at 0 (3 ∷ 2 ∷ [])

-- that has ten instances
road_numbers : length (methods_of road go_to_c) ≡ 10
road_numbers = refl

-- `stay` has one child, its step
abbrev staying : Instance
staying = record {
  method = Some 0;
  values = 3 ∷ 2 ∷ [];
  network = record { children = problem.precondition (fact 1 (3 ∷ 2 ∷ []) ∷ []) ∷ []; order = (false ∷ []) ∷ [] };
}

-- the first is to stay
road_first : slice_get (methods_of road go_to_c) 0 ≡ Some staying
road_first = refl

-- the step, the drive from one place to the next, and the task again, each before all later ones
abbrev stepping : ℕ → ℕ → Instance
stepping from to = record {
  method = Some 1;
  values = 3 ∷ from ∷ to ∷ 2 ∷ [];
  network = record {
    children = problem.precondition (fact 1 (3 ∷ from ∷ []) ∷ fact 0 (from ∷ to ∷ []) ∷ []) ∷ problem.action (ground_at 1 (3 ∷ from ∷ to ∷ [])) ∷ problem.task (ground_at 0 (3 ∷ 2 ∷ [])) ∷ [];
    order = (false ∷ true ∷ true ∷ []) ∷ (false ∷ false ∷ true ∷ []) ∷ (false ∷ false ∷ false ∷ []) ∷ [];
  };
}

-- then driving from the first place to the first
road_second : slice_get (methods_of road go_to_c) 1 ≡ Some (stepping 0 0)
road_second = refl

-- then from the first place to the second
road_third : slice_get (methods_of road go_to_c) 2 ≡ Some (stepping 0 1)
road_third = refl

-- the seventh from the second place to the third
road_seventh : slice_get (methods_of road go_to_c) 6 ≡ Some (stepping 1 2)
road_seventh = refl

-- the last from the third place to the third
road_last : slice_get (methods_of road go_to_c) 9 ≡ Some (stepping 2 2)
road_last = refl

-- a place is no truck, and too few arguments are no instance either
road_place : methods_of road (ground_at 0 (2 ∷ 3 ∷ [])) ≡ []
road_place = refl

-- a task with an argument too few has none
road_short : methods_of road (ground_at 0 (3 ∷ [])) ≡ []
road_short = refl

-- an action has no methods
road_drive : methods_of road (ground_at 1 (3 ∷ 0 ∷ 1 ∷ [])) ≡ []
road_drive = refl

-- driving has its precondition and effects
road_driven : action_of road (ground_at 1 (3 ∷ 0 ∷ 1 ∷ []))
    ≡ Some (record {
      precondition = fact 1 (3 ∷ 0 ∷ []) ∷ fact 0 (0 ∷ 1 ∷ []) ∷ [];
      deletes = set_of (record { predicate = 1; arguments = 3 ∷ 0 ∷ [] } ∷ []);
      adds = set_of (record { predicate = 1; arguments = 3 ∷ 1 ∷ [] } ∷ []);
    })
road_driven = refl

-- what is no truck can't be driven
road_not_driven : action_of road (ground_at 1 (0 ∷ 0 ∷ 1 ∷ [])) ≡ None
road_not_driven = refl

-- a compound task is no action
road_no_action : action_of road (ground_at 0 (3 ∷ 2 ∷ [])) ≡ None
road_no_action = refl

-- ## An initial network with a parameter that must differ from the first object

-- an initial network with a parameter that isn't the first object
abbrev touching : List Name → List ℕ → Task
touching names numbers = record only_objects {
  objects = names;
  types = of_type 0 numbers ∷ of_type 1 numbers ∷ [];
  actions = record { name = 0 ∷ []; parameters = 1 ∷ []; precondition = []; deletes = []; adds = [] } ∷ [];
  initial_network = record {
    parameters = 1 ∷ [];
    constraints = record { is_positive = false; left = parameter 0; right = object 0 } ∷ [];
    network = record { subtasks = task_at 0 (parameter 0 ∷ []) ∷ []; order = (false ∷ []) ∷ [] };
  };
}

-- its instance by an object
abbrev touched : ℕ → Instance
touched o = record { method = None; values = o ∷ []; network = record { children = problem.action (ground_at 0 (o ∷ [])) ∷ []; order = (false ∷ []) ∷ [] } }

-- three objects give two instances
touching_three : initials (touching ((0 ∷ []) ∷ (1 ∷ []) ∷ (2 ∷ []) ∷ []) (0 ∷ 1 ∷ 2 ∷ [])) ≡ touched 1 ∷ touched 2 ∷ []
touching_three = refl

-- one object gives none
touching_one : initials (touching ((0 ∷ []) ∷ []) (0 ∷ [])) ≡ []
touching_one = refl

-- ## A method that needs an object that the task doesn't name

-- a task whose method needs a fact of its parameter
abbrev needing : Task
needing = record only_objects {
  objects = (0 ∷ []) ∷ (1 ∷ []) ∷ [];
  types = of_type 0 (0 ∷ 1 ∷ []) ∷ of_type 1 (0 ∷ 1 ∷ []) ∷ [];
  predicates = called 0 (1 ∷ []) ∷ [];
  tasks = called 0 [] ∷ [];
  methods = record {
    name = 1 ∷ [];
    parameters = 1 ∷ [];
    task = task_at 0 [];
    precondition = literal true (at_terms 0 (parameter 0 ∷ [])) ∷ [];
    constraints = [];
    network = record { subtasks = []; order = [] };
  } ∷ [];
  initial_atoms = set_of (record { predicate = 0; arguments = 1 ∷ [] } ∷ []);
}

-- its instance by an object
abbrev needed : ℕ → Instance
needed o = record { method = Some 0; values = o ∷ []; network = record { children = problem.precondition (fact 0 (o ∷ []) ∷ []) ∷ []; order = (false ∷ []) ∷ [] } }

-- each object gives an instance
needing_both : methods_of needing (ground_at 0 []) ≡ needed 0 ∷ needed 1 ∷ []
needing_both = refl

-- ## A precondition over all objects

-- boxes are of type 1; the method's precondition is that each is done, and the action's that each is done and the
-- object 0
abbrev boxes : List Name → List ℕ → Task
boxes names numbers = record only_objects {
  objects = names;
  types = of_type 0 numbers ∷ of_type 1 numbers ∷ [];
  predicates = called 0 (1 ∷ []) ∷ [];
  tasks = called 0 [] ∷ [];
  methods = record {
    name = 1 ∷ [];
    parameters = [];
    task = task_at 0 [];
    precondition = for_all (1 ∷ []) (formulas_of (literal true (at_terms 0 (parameter 0 ∷ [])) ∷ [])) ∷ [];
    constraints = [];
    network = record { subtasks = []; order = [] };
  } ∷ [];
  actions = record {
    name = 2 ∷ [];
    parameters = 1 ∷ [];
    precondition =
        equation (record { is_positive = true; left = parameter 0; right = parameter 0 })
        ∷ for_all (1 ∷ 1 ∷ []) (formulas_of (literal true (at_terms 0 (parameter 1 ∷ [])) ∷ equation (record { is_positive = false; left = parameter 0; right = parameter 2 }) ∷ []))
        ∷ [];
    deletes = [];
    adds = at_terms 0 (parameter 0 ∷ []) ∷ [];
  } ∷ [];
}

-- a task whose precondition is for all of two boxes
abbrev two_boxes : Task
two_boxes = boxes ((0 ∷ []) ∷ (1 ∷ []) ∷ []) (0 ∷ 1 ∷ [])

-- the instance with these literals
abbrev all_done : List Literal → Instance
all_done literals = record { method = Some 0; values = []; network = record { children = problem.precondition literals ∷ []; order = (false ∷ []) ∷ [] } }

-- it has a literal for each box
boxes_two : methods_of two_boxes (ground_at 0 []) ≡ all_done (fact 0 (0 ∷ []) ∷ fact 0 (1 ∷ []) ∷ []) ∷ []
boxes_two = refl

-- without a box the step stands all the same
boxes_zero : methods_of (boxes [] []) (ground_at 0 []) ≡ all_done [] ∷ []
boxes_zero = refl

-- the equality outside is a condition of the instance, and those inside are literals, in the order of the substitutions
boxes_inside : action_of two_boxes (ground_at 1 (1 ∷ []))
    ≡ Some (record {
      precondition =
          fact 0 (0 ∷ []) ∷ equality false 1 0 ∷ fact 0 (0 ∷ []) ∷ equality false 1 1
          ∷ fact 0 (1 ∷ []) ∷ equality false 1 0 ∷ fact 0 (1 ∷ []) ∷ equality false 1 1 ∷ [];
      deletes = set_of [];
      adds = set_of (record { predicate = 0; arguments = 1 ∷ [] } ∷ []);
    })
boxes_inside = refl

-- ## An equality of two objects, and a task with an argument twice

-- a method with two parameters that are the same, or aren't
abbrev twice : Bool → Task
twice same = record only_objects {
  objects = (0 ∷ []) ∷ (1 ∷ []) ∷ [];
  types = of_type 0 (0 ∷ 1 ∷ []) ∷ [];
  tasks = called 0 (0 ∷ 0 ∷ []) ∷ [];
  methods = record {
    name = 1 ∷ [];
    parameters = 0 ∷ [];
    task = task_at 0 (parameter 0 ∷ parameter 0 ∷ []);
    precondition = equation (record { is_positive = same; left = object 0; right = object 1 }) ∷ [];
    constraints = [];
    network = record { subtasks = []; order = [] };
  } ∷ [];
}

-- a precondition of equalities alone takes no step
twice_same : methods_of (twice false) (ground_at 0 (1 ∷ 1 ∷ [])) ≡ record { method = Some 0; values = 1 ∷ []; network = record { children = []; order = [] } } ∷ []
twice_same = refl

-- different values have no instance where they must be the same
twice_different : methods_of (twice false) (ground_at 0 (0 ∷ 1 ∷ [])) ≡ []
twice_different = refl

-- equal values have none where they must differ
twice_unequal : methods_of (twice true) (ground_at 0 (1 ∷ 1 ∷ [])) ≡ []
twice_unequal = refl
