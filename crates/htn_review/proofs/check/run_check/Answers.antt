use Rattle.std.proofs.Common.{refl, sym}
use Rattle.htn_review.proofs.Refusing.{at_error}
use Rattle.htn_review.proofs.check.run_check.Goals as goal

pub returns-in_err-put_all-clause-cut_short : goal.returns-in_err-put_all-clause-cut_short
returns-in_err-put_all-clause-cut_short g c =
    let failed = c.in_err-put_all.ensures in
    at_error _ c.from_residual-in_err-put_all.result
    (λ e is. ((c.in_ok-checked.checked.finding, _, (c.in_ok-checked.checked, c.in_ok-checked.ensures.report, refl, sym c.as_slice.ensures.value), failed.0), failed.1))

pub returns-clause-report : goal.returns-clause-report
returns-clause-report g c =
    (_, (c.in_ok-checked.checked, c.in_ok-checked.ensures.report, refl, sym c.as_slice.ensures.value), c.in_ok-put_all.ensures.0)
