use Rattle.std.proofs.Common.{sym}
use Rattle.plan_lines.proofs.Exchanged.{fails_so_far}
use Rattle.plan_lines.proofs.ever.is_ruled_out.Goals as goal

pub returns-then-not-meets_so_far : goal.returns-then-not-meets_so_far
returns-then-not-meets_so_far c e values fit =
    fails_so_far c.args.search.now.task.now c.args.search.now.conditions.now c.args.given.now (sym c.if-not-meets_so_far.ensures) (values, fit.0)
