use Rattle.picture_svg.proofs.Determined.{layouts_are_one}
use Rattle.picture_svg.proofs.laws.layouts_are_one.Goals as goal

pub returns : goal.returns
returns c = layouts_are_one
