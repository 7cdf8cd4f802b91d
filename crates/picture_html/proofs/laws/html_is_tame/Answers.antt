use Rattle.picture_html.proofs.TameHtml.{page_ok}
use Rattle.picture_html.proofs.laws.html_is_tame.Goals as goal

pub returns : goal.returns
returns c = page_ok c.svg_is_tame.ensures
