use Rattle.picture_html.proofs.Folding.{outlines_are_folded}
use Rattle.picture_html.proofs.laws.outlines_are_folded.Goals as goal

pub returns : goal.returns
returns c = outlines_are_folded
