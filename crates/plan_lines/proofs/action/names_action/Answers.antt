use Rattle.std.proofs.Common.{◌∙◌, ap, ap₂, sym}
use Rattle.htn_ground.specs.Naming.{task_named}
use Rattle.htn_model.specs.Instances.{action_of}
use Rattle.htn_model.specs.Task.{Task}
use Rattle.plan_lines.proofs.Acting.{acts}
use Rattle.plan_lines.proofs.action.names_action.Goals as goal

pub returns : goal.returns
returns c file =
    let t = c.args.names.now in
    let line = c.args.line.now in
    let g = c.in-Some.goal in
    let named = ap₂ (task_named t) (sym c.name.ensures) (sym c.arguments.ensures) ∙ sym c.in_ok-goal.ensures ∙ c.in-Some.is in
    acts t line.name line.arguments g named c.in_ok-action.action (c.in_ok-action.ensures ∙ ap (λ (u : Task). action_of u g) c.task.ensures) c.is_some.result c.is_some.ensures
