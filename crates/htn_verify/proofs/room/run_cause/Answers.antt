use Rattle.std.proofs.Common.{◌∙◌}
use Rattle.htn_ground.specs.Naming.{naming_of}
use Rattle.htn_model.specs.Grounding.{problem_of}
use Rattle.htn_verify.proofs.Caused.{cause_of_file}
use Rattle.htn_verify.proofs.Tabled.{are_tasks}
use Rattle.htn_verify.proofs.Tested.{ends_so}
use Rattle.htn_verify.proofs.room.run_cause.Goals as goal

pub arranged_cause-requires-clause-tasks : goal.arranged_cause-requires-clause-tasks
arranged_cause-requires-clause-tasks c = are_tasks (naming_of c.args.task.now) c.args.file.now c.args.tasks.now c.requires.tasks

pub arranged_cause-requires-clause-ends : goal.arranged_cause-requires-clause-ends
arranged_cause-requires-clause-ends c =
    let task = c.args.task.now in
    let history = rw c.in-Runs.is at c.in_ok-run.ensures in
    ends_so (naming_of task) (problem_of task) c.args.file.now c.args.tasks.now c.requires.tasks c.actions-actions.result.now c.actions-actions.ensures.value c.in-Runs.turns history
    _ (c.as_slice.ensures ∙ c.in_ok-goal.ensures) c.holds.result c.holds.ensures _ c.if-not-holds.false

pub returns : goal.returns
returns c =
    cause_of_file c.args.task.now c.args.file.now c.args.forest.now c.args.tasks.now c.in_ok-cause.cause c.requires.forest c.requires.tasks c.in_ok-cause.ensures
