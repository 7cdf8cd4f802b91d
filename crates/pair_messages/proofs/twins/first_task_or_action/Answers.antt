use Rattle.hddl_meaning.specs.Items.{declaration_lists}
use Rattle.hddl_meaning.specs.declared.fault.Source.TheVariants as source
use Rattle.pair_messages.proofs.FirstOnes.{actions, actions_listed, first_in, tasks, tasks_listed}
use Rattle.pair_messages.proofs.twins.first_task_or_action.Goals as goal

pub returns-in-Some-Some : goal.returns-in-Some-Some
returns-in-Some-Some c =
    let index = c.args.index.now in
    let d = index.texts.now.domain_tree.now in
    first_in (declaration_lists d source.Domain) (actions d) index.first_called.actions c.args.text.now c.get-action.result index.are_called.actions (actions_listed d) c.get-action.ensures

pub returns-in-None-default : goal.returns-in-None-default
returns-in-None-default c =
    let index = c.args.index.now in
    let d = index.texts.now.domain_tree.now in
    first_in (declaration_lists d source.Domain) (actions d) index.first_called.actions c.args.text.now c.get-action.result index.are_called.actions (actions_listed d) c.get-action.ensures

pub returns-in_default : goal.returns-in_default
returns-in_default c =
    let index = c.args.index.now in
    let d = index.texts.now.domain_tree.now in
    first_in (declaration_lists d source.Domain) (tasks d) index.first_called.tasks c.args.text.now c.get-task.result index.are_called.tasks (tasks_listed d) c.get-task.ensures

pub returns-in_default-2 : goal.returns-in_default-2
returns-in_default-2 c =
    let index = c.args.index.now in
    let d = index.texts.now.domain_tree.now in
    first_in (declaration_lists d source.Domain) (tasks d) index.first_called.tasks c.args.text.now c.get-task.result index.are_called.tasks (tasks_listed d) c.get-task.ensures
