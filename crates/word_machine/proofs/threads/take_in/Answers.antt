use Rattle.std.proofs.Common.{IfOk, is_ok, subst}
use Rattle.word_machine.specs.Workers.{IsWorked}
use Rattle.word_machine.proofs.Pieces.{all_pushed_or_not}
use Rattle.word_machine.proofs.threads.take_in.Goals as goal

pub returns-clause-right : goal.returns-clause-right
returns-clause-right g c =
    let level = c.args.job.level in
    let P = IsWorked (g.W.Expand.has_successors level.work.now) (g.W.Expand.finishes level.work.now) level.first level.last level.piece c.args.job.desk.now in
    all_pushed_or_not P c.args.home.now.items c.push.new.self.items c.in-Ok.worked (is_ok c.push.result) c.push.ensures.items c.requires.right (subst (λ r. IfOk r P) c.in-Ok.is c.requires.brought)
