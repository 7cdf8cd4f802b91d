use Rattle.plan_picture.proofs.Outlines.{outlines_are_forests}
use Rattle.plan_picture.proofs.laws.outlines_are_forests.Goals as goal

pub returns : goal.returns
returns c = outlines_are_forests
