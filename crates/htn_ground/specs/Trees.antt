-- The program's trees as the model's: an instance stands for its number among all of its task.
use Rattle.std.specs.Prelude.{ℕ, List, map, Option, Some, None}
use Rattle.std.specs.List.{position_or_len}
use Rattle.htn_model.specs.Instance.{Instance, instance_eq}
use Rattle.htn_model.specs.Instances.{initials, methods_of}
use Rattle.htn_model.specs.Problem.{GroundTask}
use Rattle.htn_model.specs.Task.{Task}
use Rattle.htn_model.specs.Tree as tree
use Rattle.htn_ground.specs.declared.node.Node.{Node, fold-Node}
use Rattle.htn_ground.specs.declared.node.Node.TheOpen.{Node-F}
use Rattle.htn_ground.specs.declared.node.Solution.{Solution}

-- a number for each instance of a ground task
abbrev pub Numbering : Type 0
Numbering = GroundTask → Instance → ℕ

-- one level, with each child already seen as its tree
abbrev pub node_step : Numbering → Node-F tree.Node → tree.Node
node_step numbers (Node-F.Leaf t) = tree.leaf t
node_step numbers (Node-F.Step literals) = tree.step literals
node_step numbers (Node-F.Compound t instance children) = tree.compound t (numbers t instance) (tree.nodes_of children.items)

-- a node with these numbers in place of its instances
abbrev pub node_of : Numbering → Node → tree.Node
node_of numbers = fold-Node tree.Node (node_step numbers)

-- a forest with these numbers
abbrev pub nodes_view : Numbering → List Node → List tree.Node
nodes_view numbers = map (node_of numbers)

-- the number of an instance: the place where it stands among all of its ground task
abbrev pub number_of : Task → Numbering
number_of t g instance = position_or_len (instance_eq instance) (methods_of t g)

-- the place where an instance stands among those of the initial network
abbrev pub initial_number_of : Task → Instance → ℕ
initial_number_of t instance = position_or_len (instance_eq instance) (initials t)

-- a solution of a task, with the numbers that its instances have there
abbrev pub solution_of : Task → Solution → tree.Solution
solution_of t s = record {
  number = initial_number_of t s.initial;
  trees = tree.nodes_of (nodes_view (number_of t) s.trees.items);
  linearisation = map (λ p. p.items) s.linearisation.items;
}

-- a node over children, which an action and a step don't have
abbrev pub over : tree.Node → List tree.Node → tree.Node
over (tree.leaf g) children = tree.leaf g
over (tree.step literals) children = tree.step literals
over (tree.compound g number nodes) children = tree.compound g number (tree.nodes_of children)

-- how many nodes a tree has, whatever the numbers
abbrev pub size_of : Node → ℕ
size_of n = tree.size (node_of (λ g instance. 0) n)

-- the size of a tree, 0 where there is none
abbrev pub size_of_any : Option Node → ℕ
size_of_any None = 0
size_of_any (Some n) = size_of n
