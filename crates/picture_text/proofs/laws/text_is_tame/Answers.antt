use Rattle.picture_text.proofs.Tamed.{text_tame}
use Rattle.picture_text.proofs.laws.text_is_tame.Goals as goal

pub returns : goal.returns
returns c = text_tame
