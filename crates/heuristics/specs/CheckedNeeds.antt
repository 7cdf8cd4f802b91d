-- What is checked of the rows of needs.
use Rattle.std.specs.Prelude.{◌≡◌, ℕ, ◌⊎◌, ⊤, true, false, All, Contains, Option, Some, slice_get}
use Rattle.htn_model.specs.Atom.{Atom}
use Rattle.htn_model.specs.Grounding.{problem_of}
use Rattle.htn_model.specs.Literal.{Literal, atom, Action}
use Rattle.htn_model.specs.Problem.{Child, precondition, action, task, GroundTask, Network}
use Rattle.htn_model.specs.State.{contains}
use Rattle.htn_model.specs.Task.{Task}
use Rattle.htn_task.specs.Literals.{literals_of}
use Rattle.htn_ground.specs.Views.{child_view}
use Rattle.htn_ground.specs.declared.child.Child.{Child as Node}
use Rattle.task_graph.specs.Graph.{AreBarredActions, IsGraph, is_task_listed, network_of, task_at}
use Rattle.task_graph.specs.declared.decomposition.Decomposition.{Decomposition}
use Rattle.task_graph.specs.declared.graph.TaskGraph.{TaskGraph}
use Rattle.heuristics.specs.Needs.{IsWithin, has_blocked}
use Rattle.heuristics.specs.Rows.{gives_by, is_marked, literal_number, outlook_of, row_of}
use Rattle.heuristics.specs.declared.needs.Needs.{Needs}
use Rattle.heuristics.specs.declared.rows.Row.{Row}

-- a node gives only what a row does
abbrev pub GivesWithin : Needs → Child → Row → Type 0
GivesWithin n x r = (number : Option ℕ) → gives_by (row_of n x) number ≡ true → is_marked r.gives.items number ≡ true

-- a node of the network never ends, or the task is within it
abbrev pub IsAllowed : Needs → GroundTask → Network → Type 0
IsAllowed n g network = (has_blocked (outlook_of n) network ≡ true) ⊎ IsWithin (outlook_of n) g network

-- the row of an action wants only literals of its precondition, and gives its effects
pub record IsActionRight (n : Needs) (a : Action) (r : Row) : Type 0 where
  pub wants : (l : Literal) → Contains (literals_of r.wants.items) l → Contains a.precondition l
  pub adds : (x : Atom) → contains a.adds x ≡ true → is_marked r.gives.items (literal_number n (atom true x)) ≡ true
  pub deletes : (x : Atom) → contains a.deletes x ≡ true → is_marked r.gives.items (literal_number n (atom false x)) ≡ true

-- the row of a step wants only its literals, and that of an action is right
abbrev pub IsLeafRight : Task → Needs → Child → Row → Type 0
IsLeafRight t n (precondition literals) r = (l : Literal) → Contains (literals_of r.wants.items) l → Contains literals l
IsLeafRight t n (action g) r = (a : Action) → (problem_of t).action_of g ≡ Some a → IsActionRight n a r
IsLeafRight t n (task g) r = ⊤

-- the rows of all leaves are right
abbrev pub AreLeavesRight : Task → Needs → Type 0
AreLeavesRight t n =
    (k : ℕ) (r : Row) → slice_get n.rows.leaf_rows.items k ≡ Some r → (x : Node) → slice_get n.rows.leaves.keys k ≡ Some x → IsLeafRight t n (child_view x) r

-- each compound task is within each of its decompositions, but for those with a node that never ends
abbrev pub AreAllowed : Needs → TaskGraph → Type 0
AreAllowed n g = (j : ℕ) (d : Decomposition) (h : GroundTask) → slice_get g.decompositions.items j ≡ Some d → task_at g d.task.index ≡ Some h → IsAllowed n h (network_of d)

-- all conditions on rows: compound tasks have rows only if their decompositions are listed, and all rows are right,
-- those of actions by the actions' groundings
pub record AreRowsRight (n : Needs) (g : TaskGraph) : Type 0 where
  pub tasks : All (λ h. is_task_listed g h ≡ true) n.tasks.keys
  pub leaves : (t : Task) → IsGraph t g → AreLeavesRight t n
  pub allowed : AreAllowed n g

-- all that was checked of needs: their rows, and the actions that are never carried out
pub record IsChecked (n : Needs) (g : TaskGraph) : Type 0 where
  pub rows : AreRowsRight n g
  pub barred : AreBarredActions g n.barred.keys
