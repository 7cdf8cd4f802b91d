use Rattle.std.proofs.Common.{◌≡◌, ◌≤◌, ◌<◌, ℕ, false}
use Rattle.htn_model.specs.Grounding.{problem_of}
use Rattle.htn_task.specs.Literals.{literal_of}
use Rattle.plan_causes.specs.Causes.{is_setter}
use Rattle.plan_causes.proofs.setter.next_setter.Given as goal

abbrev pub invariant-loop-number : goal.invariant-loop-number
invariant-loop-number l = (k : ℕ) → l.from ≤ k → k < l.number → is_setter (problem_of l.task) l.tasks (literal_of l.literal) k ≡ false
