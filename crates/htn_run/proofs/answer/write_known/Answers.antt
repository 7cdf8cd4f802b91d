use Rattle.std.proofs.Common.{subst}
use Rattle.std.proofs.lemmas.Result.{err_from_is_err_and}
use Rattle.htn_search.specs.Answer.{IsKnown}
use Rattle.htn_run.proofs.Saying.{cut_unknown, cut_watched}
use Rattle.htn_review.proofs.Refusing.{at_error}
use Rattle.htn_run.proofs.answer.write_known.Goals as goal

pub returns-in_err-outcome-in-Answer-clause-cut_short :
    goal.returns-in_err-outcome-in-Answer-clause-cut_short
returns-in_err-outcome-in-Answer-clause-cut_short g c =
    let p = err_from_is_err_and c.from_residual.result c.from_residual.ensures.1 in
    rw (p.1, p.2) (λ is. (let h = c.in_err-outcome-in-Answer.ensures.cut_short is in (cut_watched c.args.task.now c.args.bound _ _ _ h.0, h.1)))

pub returns-in_err-put_unknown-in-Unknown-clause-cut_short :
    goal.returns-in_err-put_unknown-in-Unknown-clause-cut_short
returns-in_err-put_unknown-in-Unknown-clause-cut_short g c =
    let failed = c.in_err-put_unknown-in-Unknown.ensures in
    let known = subst (IsKnown c.args.task.now c.args.bound) c.in-Unknown.is c.requires in
    at_error _ c.from_residual-in_err-put_unknown-in-Unknown.result
    (λ e is. (cut_unknown c.args.task.now c.args.bound _ c.in-Unknown.none_within _ _ (c.in-Unknown.none_within, c.in-Unknown.is) known failed.0, failed.1))
