use Rattle.std.proofs.Common.{Some}
use Rattle.hddl_warnings.specs.Warnings.{IsUnusedAction, IsUnusedTask}
use Rattle.hddl_warnings.specs.Used.{name_texts, subtask_names}
use Rattle.hddl_warnings.proofs.Telling.{Tells-then}
use Rattle.hddl_warnings.proofs.tasks.tell_unused_tasks.Goals as goal

pub returns : goal.returns
returns c =
    let d = c.args.domain.now in
    let p = c.args.problem.now in
    let named = name_texts (subtask_names d (Some p)) in
    Tells-then c.args.out.now.items c.tell_tasks.new.out.items c.tell_actions.new.out.items (IsUnusedTask d p) (IsUnusedAction d p)
    (c.in_ok-tell_tasks.ensures named c.in_ok-asked.ensures) (c.in_ok-tell_actions.ensures named c.in_ok-asked.ensures)
