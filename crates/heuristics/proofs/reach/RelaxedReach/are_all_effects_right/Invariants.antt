use Rattle.std.proofs.Common.{All, take}
use Rattle.htn_model.specs.Task.{Task}
use Rattle.task_graph.specs.Graph.{IsGraph}
use Rattle.heuristics.specs.CheckedReach.{AreEffectsRight}
use Rattle.heuristics.proofs.reach.RelaxedReach.are_all_effects_right.Given as goal

abbrev pub invariant-loop-goal : goal.invariant-loop-goal
invariant-loop-goal l = (t : Task) → IsGraph t l.graph → All (AreEffectsRight t l.self) (take l.goal-index l.goals)
