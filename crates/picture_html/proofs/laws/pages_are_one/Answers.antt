use Rattle.picture_html.proofs.OnePage.{pages_are_one}
use Rattle.picture_html.proofs.laws.pages_are_one.Goals as goal

pub returns : goal.returns
returns c = pages_are_one c.layouts_are_one.ensures
