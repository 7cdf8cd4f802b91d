use Rattle.htn_model.proofs.Grounded.{tasks_are_grounded}
use Rattle.never_applied.proofs.Sound.{right_fine}
use Rattle.never_applied.proofs.stages.fine_of.Goals as goal

pub returns-then-is_right : goal.returns-then-is_right
returns-then-is_right c = λ used.
    right_fine c.args.task.now (tasks_are_grounded c.args.task.now c.initial_atoms-typed.ensures.typed) c.in_ok-fine.fine c.args.usable.now (c.in_ok-is_right.ensures c.if-is_right.true) used
