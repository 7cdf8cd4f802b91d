-- The plan file of a solution: actions numbered in order of execution, and then compound nodes, each before those below
-- it.
use Rattle.std.specs.Prelude.{◌≡◌, ℕ, suc, List, [], ◌∷◌, ◌++◌, map, Option, Some, None, Bool, true, false, cond, eqb, ◌&&◌}
use Rattle.std.specs.List.{filter}
use Rattle.htn_model.specs.Problem.{GroundTask, Problem}
use Rattle.htn_model.specs.Tree.{Node, leaf, step, compound, children_in, Place, node_at, Solution, IsSolution}
use Rattle.htn_model.specs.PlanFile.{ActionLine, DecompositionLine, PlanFile, Naming}
use Rattle.htn_model.specs.Shadow.{shown_from, compounds_from, ids_of, HasId, IsShadow}

-- whether a node is an action
abbrev pub is_leaf : Option Node → Bool
is_leaf None = false
is_leaf (Some (leaf g)) = true
is_leaf (Some (step literals)) = false
is_leaf (Some (compound t number nodes)) = false

-- the places of the actions, in order of execution
abbrev pub action_places : Solution → List Place
action_places s = filter (λ p. is_leaf (node_at s.trees p)) s.linearisation

-- the places of compound nodes, each before those below it
abbrev pub compound_places : Solution → List Place
compound_places s = compounds_from [] 0 s.trees

-- the place with id n is the n-th of these
abbrev pub numbered_places : Solution → List Place
numbered_places s = action_places s ++ compound_places s

-- whether two places are equal
abbrev pub is_same_place : Place → Place → Bool
is_same_place [] [] = true
is_same_place [] (j ∷ q) = false
is_same_place (i ∷ p) [] = false
is_same_place (i ∷ p) (j ∷ q) = eqb i j && is_same_place p q

-- the first position of a place in a list
abbrev pub position : Place → List Place → ℕ
position p [] = 0
position p (q ∷ qs) = cond (is_same_place p q) 0 (suc (position p qs))

-- the number of a node in its plan file: its position among those that are numbered
abbrev pub id_in : Solution → Place → ℕ
id_in s p = position p (numbered_places s)

-- a task that serves where there is none
abbrev pub no_task : GroundTask
no_task = record { name = 0; arguments = [] }

-- the task of an action or a compound node
abbrev pub task_at : Option Node → GroundTask
task_at None = no_task
task_at (Some (leaf g)) = g
task_at (Some (step literals)) = no_task
task_at (Some (compound t number nodes)) = t

-- the number of the instance at a node, 0 where it isn't compound
abbrev pub number_at : Option Node → ℕ
number_at None = 0
number_at (Some (leaf g)) = 0
number_at (Some (step literals)) = 0
number_at (Some (compound t number nodes)) = number

-- the line of the action at a place
abbrev pub action_line_at : Naming → Solution → Place → ActionLine
action_line_at naming s p =
    let g = task_at (node_at s.trees p) in
    record { id = id_in s p; name = naming.task_name g; arguments = naming.argument_names g }

-- the line of the compound node at a place
abbrev pub decomposition_line_at : Naming → Solution → Place → DecompositionLine
decomposition_line_at naming s p =
    let t = task_at (node_at s.trees p) in
    record {
      id = id_in s p;
      task = naming.task_name t;
      arguments = naming.argument_names t;
      method = naming.method_name t (number_at (node_at s.trees p));
      children = ids_of (id_in s) (shown_from p 0 (children_in (node_at s.trees p)));
    }

-- roots and children in declared order, decompositions by id
abbrev pub numbered : Naming → Solution → PlanFile
numbered naming s = record {
  actions = map (action_line_at naming s) (action_places s);
  roots = ids_of (id_in s) (shown_from [] 0 s.trees);
  decompositions = map (decomposition_line_at naming s) (compound_places s);
}

-- the words of each action and compound node name it
abbrev pub NamesNodes : Naming → Solution → Type 0
NamesNodes naming s =
    (p : Place) → HasId (node_at s.trees p)
    → let g = task_at (node_at s.trees p) in naming.named (naming.task_name g) (naming.argument_names g) ≡ Some g

-- a solution's plan file is a shadow of it
abbrev pub NumberedIsShadow : Naming → Problem → Type 0
NumberedIsShadow naming problem = (s : Solution) → IsSolution problem s → NamesNodes naming s → IsShadow naming (numbered naming s) s
