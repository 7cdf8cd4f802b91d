use Rattle.std.proofs.Common.{leb-true}
use Rattle.call_table.proofs.Followed.{exit_covers}
use Rattle.call_table.proofs.follow.covers.Goals as goal

pub returns-in-Some : goal.returns-in-Some
returns-in-Some c = λ h.
    exit_covers c.args.call.now c.args.exits.now c.args.state c.in-Some.cost.now c.args.steps c.requires c.in-Some.ensures.value
    (leb-true c.in-Some.cost.now c.args.steps h)
