use Rattle.picture_svg.proofs.Joined.{layouts_are_clear}
use Rattle.picture_svg.proofs.laws.layouts_are_clear.Goals as goal

pub returns : goal.returns
returns c = layouts_are_clear
