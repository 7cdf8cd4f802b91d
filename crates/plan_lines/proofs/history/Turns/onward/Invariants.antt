use Rattle.std.proofs.Common.{take}
use Rattle.htn_task.specs.Literals.{literals_of}
use Rattle.plan_lines.proofs.Going.{HaveMoved}
use Rattle.plan_lines.proofs.history.Turns.onward.Given as goal

abbrev pub invariant-loop-literal : goal.invariant-loop-literal
invariant-loop-literal l = HaveMoved l.self (literals_of (take l.literal-index l.literals)) l.from l.last l.gap
