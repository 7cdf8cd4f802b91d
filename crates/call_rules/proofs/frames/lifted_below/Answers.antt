use Rattle.call_rules.proofs.Lifted.{estimates_lift}
use Rattle.call_rules.proofs.frames.lifted_below.Goals as goal

pub returns : goal.returns
returns c = estimates_lift
