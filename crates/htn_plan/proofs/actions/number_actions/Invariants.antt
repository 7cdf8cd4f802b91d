use Rattle.htn_ground.specs.Trees.{solution_of}
use Rattle.htn_plan.specs.Ids.{AreNumbered}
use Rattle.htn_plan.proofs.actions.number_actions.Given as goal

abbrev pub invariant-loop-index : goal.invariant-loop-index
invariant-loop-index l = AreNumbered l.task (solution_of l.task l.solution) l.index l.lines.items l.ids
