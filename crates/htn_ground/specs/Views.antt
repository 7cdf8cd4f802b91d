-- The program's nodes as the model's.
use Rattle.std.specs.Prelude.{List, map}
use Rattle.htn_model.specs.Problem as model
use Rattle.htn_ground.specs.declared.child.Child.{Child}
use Rattle.htn_ground.specs.declared.child.Child.TheVariants.{Precondition, Action, Task}

-- a node of a network as the definitions have it
abbrev pub child_view : Child → model.Child
child_view (Precondition literals) = model.precondition literals
child_view (Action t) = model.action t
child_view (Task t) = model.task t

-- the nodes of a network as the definitions have them
abbrev pub children_of : List Child → List model.Child
children_of children = map child_view children
