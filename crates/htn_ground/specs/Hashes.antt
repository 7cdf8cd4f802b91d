-- The hashes of ground tasks and nodes, and the laws of their equality.
use Rattle.std.specs.Prelude.{Bool, List, ◌++◌}
use Rattle.std.specs.Cmp.{IsEquivalence, IsPartialEquivalence, partial_equiv_from_equiv}
use Rattle.std.specs.Cmp.Lexicographic.{pointwise, lists_equiv}
use Rattle.std.specs.Hash as fed
use Rattle.std.specs.Hash.{HashWrites, Alike, items_Alike, same_Alike}
use Rattle.htn_model.specs.Problem.{GroundTask, Child, precondition, action, task, child_eq, ground_task_eq}
use Rattle.htn_model.specs.Equality.{child_eq-decides, child_eq-laws, ground_task_eq-decides}
use Rattle.htn_task.specs.Literals.{literals_hash}

-- the writes by which a ground task feeds a hasher
abbrev pub ground_task_hash : GroundTask → HashWrites
ground_task_hash t = fed.u32 t.name ++ fed.slice fed.u16 t.arguments

pub ground_task_hash-Alike : Alike ground_task_eq ground_task_hash
ground_task_hash-Alike = same_Alike ground_task_hash ground_task_eq-decides

-- the writes by which a node feeds a hasher: its kind, and then its contents
abbrev pub child_hash : Child → HashWrites
child_hash (precondition literals) = fed.u8 0 ++ literals_hash literals
child_hash (action g) = fed.u8 1 ++ ground_task_hash g
child_hash (task t) = fed.u8 2 ++ ground_task_hash t

pub child_hash-Alike : Alike child_eq child_hash
child_hash-Alike = same_Alike child_hash child_eq-decides

-- ## Lists of nodes

-- the lists have equal nodes, one by one
abbrev pub children_eq : List Child → List Child → Bool
children_eq = pointwise child_eq

-- the writes by which a list of nodes feeds a hasher
abbrev pub children_hash : List Child → HashWrites
children_hash = fed.slice child_hash

pub children_eq-laws : IsEquivalence children_eq
children_eq-laws = lists_equiv child_eq-laws

pub children_eq-partial : IsPartialEquivalence children_eq
children_eq-partial = partial_equiv_from_equiv children_eq-laws

pub children_hash-Alike : Alike children_eq children_hash
children_hash-Alike = items_Alike child_hash-Alike
