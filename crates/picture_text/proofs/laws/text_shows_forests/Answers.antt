use Rattle.picture_text.proofs.TextForests.{text_shows_forests}
use Rattle.picture_text.proofs.laws.text_shows_forests.Goals as goal

pub returns : goal.returns
returns c = text_shows_forests c.outlines_are_forests.ensures
