use Rattle.std.proofs.Common.{◌∙◌, ap}
use Rattle.indexmap.specs.IndexSet.{insert_key}
use Rattle.htn_model.specs.Problem.{ground_task_eq}
use Rattle.task_graph.proofs.Ids.{grown_itself}
use Rattle.never_applied.proofs.Growing.{put_grown, task_in}
use Rattle.never_applied.proofs.usable.Usable.add_goal.Goals as goal

pub returns-clause-more : goal.returns-clause-more
returns-clause-more c =
    let a = c.args.self.now in
    record {
      tasks = put_grown ground_task_eq a.tasks.keys c.insert.new.self.keys c.args.goal.now (c.in_ok-insert.ensures.keys ∙ ap (insert_key ground_task_eq a.tasks.keys) c.in_ok-clone.ensures.cases);
      actions = grown_itself a.actions.keys;
      names = grown_itself a.names.keys;
      methods = grown_itself a.methods.keys;
    }

pub returns-clause-there : goal.returns-clause-there
returns-clause-there c =
    let a = c.args.self.now in
    task_in a.tasks.keys c.insert.new.self.keys c.args.goal.now (c.in_ok-insert.ensures.keys ∙ ap (insert_key ground_task_eq a.tasks.keys) c.in_ok-clone.ensures.cases)
