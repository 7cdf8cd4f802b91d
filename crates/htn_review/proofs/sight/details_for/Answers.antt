use Rattle.std.proofs.Common.{sym, ◌∙◌}
use Rattle.htn_review.proofs.Refusing.{ok_more}
use Rattle.htn_review.proofs.Sighting.{details_if, no_details}
use Rattle.htn_review.specs.Trees.{has_details}
use Rattle.htn_review.proofs.sight.details_for.Goals as goal

pub returns-then-not-has_details : goal.returns-then-not-has_details
returns-then-not-has_details c = no_details _ _ _ _ _

pub returns-in-Valid : goal.returns-in-Valid
returns-in-Valid c =
    let pair = c.args.pair.now in
    let look = c.args.look in
    ok_more _ _ c.details_of.result
    (λ found h. details_if (has_details look.drawing look.has_details) pair.domain pair.task c.args.file.now c.args.verdict found
    (sym c.has_details.ensures ∙ c.if-not-has_details.false) c.in-Valid.is h) c.details_of.ensures

pub returns-in_default : goal.returns-in_default
returns-in_default c = no_details _ _ _ _ _
