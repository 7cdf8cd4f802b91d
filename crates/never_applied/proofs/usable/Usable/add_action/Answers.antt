use Rattle.std.proofs.Common.{◌∙◌, ap, nat_eq}
use Rattle.std.proofs.lemmas.Bool.{and_from}
use Rattle.indexmap.specs.IndexSet.{insert_key}
use Rattle.htn_model.specs.Problem.{ground_task_eq}
use Rattle.task_graph.proofs.Ids.{grown_itself}
use Rattle.never_applied.proofs.Growing.{number_in, put_grown, task_in}
use Rattle.never_applied.proofs.usable.Usable.add_action.Goals as goal

pub returns-clause-more : goal.returns-clause-more
returns-clause-more c =
    let a = c.args.self.now in
    record {
      tasks = grown_itself a.tasks.keys;
      actions = put_grown ground_task_eq a.actions.keys c.insert-2.new.self.keys c.args.goal.now
          (c.in_ok-insert-2.ensures.keys ∙ ap (insert_key ground_task_eq a.actions.keys) c.in_ok-clone.ensures.cases);
      names = put_grown nat_eq a.names.keys c.insert.new.self.keys c.args.goal.now.name (c.in_ok-insert.ensures.keys ∙ ap (insert_key nat_eq a.names.keys) c.name.ensures);
      methods = grown_itself a.methods.keys;
    }

pub returns-clause-there : goal.returns-clause-there
returns-clause-there c =
    let a = c.args.self.now in
    and_from _ _
    (task_in a.actions.keys c.insert-2.new.self.keys c.args.goal.now (c.in_ok-insert-2.ensures.keys ∙ ap (insert_key ground_task_eq a.actions.keys) c.in_ok-clone.ensures.cases))
    (number_in a.names.keys c.insert.new.self.keys c.args.goal.now.name (c.in_ok-insert.ensures.keys ∙ ap (insert_key nat_eq a.names.keys) c.name.ensures))
