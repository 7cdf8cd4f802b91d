use Rattle.call_rules.proofs.FramedValues.{framed_values_below}
use Rattle.call_rules.proofs.frames.framed_values_below.Goals as goal

pub returns : goal.returns
returns c = framed_values_below
