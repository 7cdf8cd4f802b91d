use Rattle.picture_text.proofs.Forests.{json_shows_forests}
use Rattle.picture_text.proofs.laws.json_shows_forests.Goals as goal

pub returns : goal.returns
returns c = json_shows_forests
