use Rattle.std.proofs.Common.{All, take}
use Rattle.never_applied.specs.Fine.{IsActionRight}
use Rattle.never_applied.proofs.fine.Fine.are_actions_right.Given as goal

abbrev pub invariant-loop-goal : goal.invariant-loop-goal
invariant-loop-goal l = All (IsActionRight l.task l.self) (take l.goal-index l.goals)
