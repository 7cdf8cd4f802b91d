use Rattle.std.proofs.Common.{refl}
use Rattle.htn_review.proofs.tree.report_of.Goals as goal

pub returns : goal.returns
returns c = (c.in_ok-checked.checked.finding, (c.in_ok-checked.checked, c.in_ok-checked.ensures.report, refl, refl))
