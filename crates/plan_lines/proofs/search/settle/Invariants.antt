use Rattle.std.proofs.Common.{◌≡◌, ◌+◌, ◌≤◌, List, ℕ, length, map, take}
use Rattle.htn_model.specs.Instances.{ground_task}
use Rattle.htn_model.specs.Problem.{GroundTask}
use Rattle.plan_lines.specs.Given.{Extends}
use Rattle.plan_lines.specs.Left.{left_of, times}
use Rattle.plan_lines.proofs.search.settle.Given as goal

-- what was taken is what the schemas so far have, but for those that are kept
abbrev pub invariant-loop-schema : goal.invariant-loop-schema
invariant-loop-schema l = record {
  long : length l.left.items ≡ length l.children;
  fewer : length l.kept.items ≤ l.schema-index;
  taken : (values : List ℕ) → Extends values l.given → (g : GroundTask)
      → times g (map (ground_task values) (map (λ s. s.now) (take l.schema-index l.schemas))) + left_of l.children l.left.items g
      ≡ times g (map (ground_task values) (map (λ s. s.now) l.kept.items)) + left_of l.children l.initial.left.items g;
}
