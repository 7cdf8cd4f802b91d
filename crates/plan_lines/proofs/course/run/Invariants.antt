use Rattle.std.proofs.Common.{take}
use Rattle.htn_model.specs.Grounding.{problem_of}
use Rattle.plan_lines.specs.Run.{IsHistoryOf}
use Rattle.plan_lines.proofs.course.run.Given as goal

abbrev pub invariant-loop-line : goal.invariant-loop-line
invariant-loop-line l = IsHistoryOf (problem_of l.task) (take l.line l.tasks) l.turns
