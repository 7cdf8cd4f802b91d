use Rattle.std.proofs.Common.{take}
use Rattle.std.specs.List.{AllZip}
use Rattle.plan_messages.specs.Explanation.{IsGoalError}
use Rattle.plan_messages.proofs.run_errors.goal_errors.Given as goal

abbrev pub invariant-loop-literal : goal.invariant-loop-literal
invariant-loop-literal l = AllZip (IsGoalError l.texts) (take l.literal-index l.literals) l.errors.items
