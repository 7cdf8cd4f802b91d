use Rattle.picture_text.proofs.TameGraphs.{graph_tame}
use Rattle.picture_text.proofs.laws.graph_is_tame.Goals as goal

pub returns : goal.returns
returns c = graph_tame
