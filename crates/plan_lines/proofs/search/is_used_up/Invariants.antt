use Rattle.std.proofs.Common.{◌≡◌, ◌<◌, ℕ, Some, slice_get}
use Rattle.htn_model.specs.Problem.{GroundTask}
use Rattle.plan_lines.specs.Left.{left_of}
use Rattle.plan_lines.proofs.search.is_used_up.Given as goal

abbrev pub invariant-loop-number : goal.invariant-loop-number
invariant-loop-number l = (k : ℕ) (g : GroundTask) → k < l.number → slice_get l.children k ≡ Some g → left_of l.children l.left g ≡ 0
