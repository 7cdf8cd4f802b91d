use Rattle.picture_svg.proofs.TameSvg.{svg_tame}
use Rattle.picture_svg.proofs.laws.svg_is_tame.Goals as goal

pub returns : goal.returns
returns c = svg_tame
