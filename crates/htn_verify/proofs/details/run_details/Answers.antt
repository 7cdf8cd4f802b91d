use Rattle.std.proofs.Common.{◌∙◌}
use Rattle.htn_ground.specs.Naming.{naming_of}
use Rattle.htn_model.specs.Grounding.{problem_of}
use Rattle.htn_verify.proofs.Tabled.{are_tasks}
use Rattle.htn_verify.proofs.Tested.{ends_so}
use Rattle.htn_verify.proofs.details.run_details.Goals as goal

pub arranged_details-requires-clause-tasks : goal.arranged_details-requires-clause-tasks
arranged_details-requires-clause-tasks c = are_tasks (naming_of c.args.task.now) c.args.file.now c.args.tasks.now c.requires.tasks

pub arranged_details-requires-clause-ends : goal.arranged_details-requires-clause-ends
arranged_details-requires-clause-ends c =
    let task = c.args.task.now in
    let history = rw c.in-Runs.is at c.in_ok-run.ensures in
    ends_so (naming_of task) (problem_of task) c.args.file.now c.args.tasks.now c.requires.tasks c.actions-actions.result.now c.actions-actions.ensures.value c.in-Runs.turns history
    _ (c.as_slice.ensures ∙ c.in_ok-goal.ensures) c.holds.result c.holds.ensures _ c.if-not-holds.false
