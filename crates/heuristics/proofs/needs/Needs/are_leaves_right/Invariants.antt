use Rattle.std.proofs.Common.{◌≡◌, ℕ, ◌<◌, Some, slice_get}
use Rattle.htn_ground.specs.Views.{child_view}
use Rattle.htn_ground.specs.declared.child.Child.{Child as Node}
use Rattle.htn_model.specs.Task.{Task}
use Rattle.task_graph.specs.Graph.{IsGraph}
use Rattle.heuristics.specs.CheckedNeeds.{IsLeafRight}
use Rattle.heuristics.specs.declared.rows.Row.{Row}
use Rattle.heuristics.proofs.needs.Needs.are_leaves_right.Given as goal

abbrev pub invariant-loop-number : goal.invariant-loop-number
invariant-loop-number l =
    (t : Task) → IsGraph t l.graph
    → (k : ℕ) (r : Row) → k < l.number → slice_get l.self.rows.leaf_rows.items k ≡ Some r → (x : Node) → slice_get l.self.rows.leaves.keys k ≡ Some x
    → IsLeafRight t l.self (child_view x) r
