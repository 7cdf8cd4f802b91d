use Rattle.std.proofs.Common.{◌≡◌, All, take, true}
use Rattle.task_graph.specs.Graph.{is_task_listed}
use Rattle.heuristics.proofs.needs_of.are_listed.Given as goal

abbrev pub invariant-loop-goal : goal.invariant-loop-goal
invariant-loop-goal l = All (λ h. is_task_listed l.graph h ≡ true) (take l.goal-index l.goals)
