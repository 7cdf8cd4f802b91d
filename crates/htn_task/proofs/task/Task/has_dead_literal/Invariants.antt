use Rattle.std.proofs.Common.{◌≡◌, drop}
use Rattle.std.specs.List.{list_any}
use Rattle.htn_model.specs.Exhaustion.{is_dead_literal}
use Rattle.htn_model.specs.Grounding.{problem_of}
use Rattle.htn_task.specs.Literals.{literals_of}
use Rattle.htn_task.proofs.task.Task.has_dead_literal.Given as goal

abbrev pub invariant-loop-literal : goal.invariant-loop-literal
invariant-loop-literal l =
    list_any (is_dead_literal (problem_of l.self)) (literals_of (drop l.literal-index l.literals)) ≡ list_any (is_dead_literal (problem_of l.self)) (literals_of l.literals)
