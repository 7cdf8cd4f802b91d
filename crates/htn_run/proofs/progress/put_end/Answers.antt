use Rattle.std.proofs.Common.{[], refl}
use Rattle.std.specs.Prelude.{◌++◌, codes}
use Rattle.std.specs.Fmt.{decimal}
use Rattle.std.proofs.lemmas.Result.{err_from_is_err_and}
use Rattle.plan_text.proofs.Taken.{appends_none, fails_after, finishes}
use Rattle.htn_review.specs.Headline.{number_text, unknown_text, within_text}
use Rattle.htn_run.specs.Progress.{count_text, end_line, end_text, found_text, progress_line, reach_text}
use Rattle.htn_run.proofs.progress.put_end.Goals as goal

pub returns-in_err-put_number : goal.returns-in_err-put_number
returns-in_err-put_number g c =
    let p = err_from_is_err_and c.from_residual.result c.from_residual.ensures.1 in
    rw p.1 (fails_after _ _ _ [] (number_text (codes "progress: ") c.args.seconds) (end_text c.args.watched) _ (appends_none _) c.in_err-put_number.ensures.0 refl, c.in_err-put_number.ensures.1)

pub returns : goal.returns
returns g c =
    finishes _ _ _ _ _ _ c.put_end_text.result (number_text (codes "progress: ") c.args.seconds) (end_text c.args.watched) (end_line c.args.seconds c.args.watched) c.in_ok-put_number.ensures.0 c.in_ok-put_number.ensures.1 c.put_end_text.ensures refl
