use Rattle.hddl_scope.proofs.Cuts.{past_limit}
use Rattle.hddl_scope.proofs.limits.first_past.Goals as goal

pub returns-in-Some : goal.returns-in-Some
returns-in-Some c =
    let found = c.in-Some.ensures.lookup in past_limit c.args.limit c.args.mentions.now c.in-Some.mention.now c.place.result found.3.0 found.1 c.place.ensures
