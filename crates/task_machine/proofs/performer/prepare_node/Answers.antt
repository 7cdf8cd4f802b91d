use Rattle.std.proofs.Common.{subst}
use Rattle.htn_model.specs.Problem.{Child}
use Rattle.task_machine.specs.Tables.{IsPerformer}
use Rattle.task_machine.proofs.Owned.{performers_later, performers_put}
use Rattle.task_machine.proofs.performer.prepare_node.Goals as goal

pub returns-clause-performers : goal.returns-clause-performers
returns-clause-performers c =
    let t = c.args.task.now in
    let atoms = c.performer_of.new.atoms in
    let networks = c.args.networks.now in
    let old = c.args.performers.now.items in
    let performer = c.in_ok-performer.performer in
    performers_put t atoms networks old c.put.new.slots.items c.args.node performer c.in_ok-put.ensures.here c.in_ok-put.ensures.others c.requires.known
    (subst (λ (x : Child). IsPerformer t atoms x performer) c.child.ensures c.in_ok-performer.ensures.performer)
    (performers_later t c.args.atoms.now atoms c.in_ok-performer.ensures.later networks old c.requires.performers)
