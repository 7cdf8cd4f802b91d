use Rattle.picture_text.proofs.GraphForests.{graph_shows_forests}
use Rattle.picture_text.proofs.laws.graph_shows_forests.Goals as goal

pub returns : goal.returns
returns c = graph_shows_forests
