use Rattle.std.proofs.Common.{◌≡◌, ◌<◌, ℕ, Some, length, slice_get}
use Rattle.htn_model.specs.Task.{MethodSchema}
use Rattle.plan_lines.specs.Left.{MethodShows}
use Rattle.plan_lines.proofs.instances.has_instance.Given as goal

-- no method so far shows the line
abbrev pub invariant-loop-schema : goal.invariant-loop-schema
invariant-loop-schema l =
    (k : ℕ) (m : MethodSchema) → k < l.schema-index → slice_get l.methods k ≡ Some m → m.name ≡ l.method → length m.network.subtasks ≡ length l.children
    → MethodShows l.task l.goal m l.tasks l.counts.items → ⊥
