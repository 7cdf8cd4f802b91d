use Rattle.std.proofs.Common.{[], refl}
use Rattle.std.specs.Prelude.{Some, codes}
use Rattle.std.specs.Fmt.{decimal}
use Rattle.std.proofs.lemmas.Result.{err_from_is_err_and}
use Rattle.plan_text.proofs.Taken.{appends_none, fails_after, finishes}
use Rattle.htn_run.specs.Lines.{place_text}
use Rattle.htn_run.proofs.fault_line.put_place.Goals as goal

pub returns-in_err-put_all-in-Some : goal.returns-in_err-put_all-in-Some
returns-in_err-put_all-in-Some g c =
    let p = err_from_is_err_and c.from_residual.result c.from_residual.ensures.1 in
    rw (c.in-Some.is, p.1) (fails_after _ _ _ [] (codes " at ") (decimal c.in-Some.place) _ (appends_none _) c.in_err-put_all-in-Some.ensures.0 refl, c.in_err-put_all-in-Some.ensures.1)

pub returns-in_ok-put_all-in-Some : goal.returns-in_ok-put_all-in-Some
returns-in_ok-put_all-in-Some g c =
    rw c.in-Some.is
    (finishes _ _ _ _ _ _ c.put_id.result (codes " at ") (decimal c.in-Some.place) (place_text (Some c.in-Some.place)) c.in_ok-put_all-in-Some.ensures.0
    c.in_ok-put_all-in-Some.ensures.1 c.put_id.ensures refl)
