use Rattle.std.proofs.Common.{List, [], ◌++◌, map, subst}
use Rattle.hddl_words.specs.declared.domain.ActionText.{ActionText}
use Rattle.hddl_words.specs.declared.domain.TaskText.{TaskText}
use Rattle.hddl_meaning.specs.Items.{signature}
use Rattle.hddl_uses.specs.Tables.{IsTableOf}
use Rattle.hddl_uses.proofs.declared.tasks_of.Goals as goal

pub returns : goal.returns
returns c =
    let d = c.args.domain.now in
    let tasks : IsTableOf (map (λ x. signature x.name x.parameters) d.tasks) c.push_tasks.new.self =
    subst (λ (xs : List TaskText). IsTableOf (map (λ x. signature x.name x.parameters) xs) c.push_tasks.new.self) c.as_slice.ensures (c.in_ok-push_tasks.ensures [] c.in_ok-table.ensures) in
    subst (λ (xs : List ActionText). IsTableOf (map (λ x. signature x.name x.parameters) d.tasks ++ map (λ x. signature x.name x.parameters) xs) c.push_actions.new.self)
    c.as_slice-2.ensures (c.in_ok-push_actions.ensures (map (λ x. signature x.name x.parameters) d.tasks) tasks)
