use Rattle.htn_model.proofs.Grounded.{tasks_are_grounded}
use Rattle.never_applied.proofs.Sound.{used_openly}
use Rattle.never_applied.proofs.stages.all_usable.Goals as goal

pub returns : goal.returns
returns c =
    used_openly c.args.task.now (tasks_are_grounded c.args.task.now c.initial_atoms-typed.ensures.typed) c.args.graph.now c.requires c.in_ok-barred.barred.keys c.in_ok-barred.ensures
    c.in_ok-open.open c.in_ok-open.ensures.open c.in_ok-open.ensures.barred c.in_ok-found.found c.in_ok-found.ensures
