use Rattle.std.proofs.Common.{nat_eq}
use Rattle.task_graph.proofs.Ids.{grown_itself}
use Rattle.never_applied.proofs.Growing.{number_in, put_grown}
use Rattle.never_applied.proofs.usable.Usable.add_number.Goals as goal

pub returns-clause-more : goal.returns-clause-more
returns-clause-more c =
    let a = c.args.self.now in
    record {
      tasks = grown_itself a.tasks.keys;
      actions = grown_itself a.actions.keys;
      names = grown_itself a.names.keys;
      methods = put_grown nat_eq a.methods.keys c.insert.new.self.keys c.args.number c.in_ok-insert.ensures.keys;
    }

pub returns-clause-there : goal.returns-clause-there
returns-clause-there c = number_in c.args.self.now.methods.keys c.insert.new.self.keys c.args.number c.in_ok-insert.ensures.keys
