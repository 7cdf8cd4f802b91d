use Rattle.std.proofs.Common.{◌≡◌, ◌<◌, ℕ, Some, slice_get}
use Rattle.htn_model.specs.Problem.{Child}
use Rattle.task_graph.specs.Graph.{nodes_of}
use Rattle.heuristics.specs.Sizes.{IsSize, size_at}
use Rattle.heuristics.proofs.sizes_check.are_sizes.Given as goal

abbrev pub invariant-loop-place : goal.invariant-loop-place
invariant-loop-place l = (id : ℕ) (x : Child) → id < l.place → slice_get (nodes_of l.graph) id ≡ Some x → IsSize l.graph id x (size_at l.sizes id)
