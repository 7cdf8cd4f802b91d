use Rattle.std.proofs.Common.{◌≡◌, length, map, take}
use Rattle.htn_model.specs.Problem.{GroundTask}
use Rattle.plan_lines.specs.Left.{left_of, times}
use Rattle.plan_lines.proofs.children.count_children.Given as goal

abbrev pub invariant-loop-child : goal.invariant-loop-child
invariant-loop-child l = record {
  long : length l.counts.items ≡ length l.tasks.keys;
  counts : (g : GroundTask) → times g (map (λ c. c.now) (take l.child-index l.children)) ≡ left_of l.tasks.keys l.counts.items g;
}
