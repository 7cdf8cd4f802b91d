use Rattle.std.proofs.Common.{[], refl}
use Rattle.std.specs.Prelude.{◌++◌, codes}
use Rattle.std.specs.Fmt.{decimal}
use Rattle.std.proofs.lemmas.Result.{err_from_is_err_and}
use Rattle.plan_text.proofs.Taken.{appends_none, fails_after, finishes}
use Rattle.htn_review.specs.Headline.{number_text, unknown_text, within_text}
use Rattle.htn_run.proofs.progress.put_tail.Goals as goal

pub returns-in_err-put_within : goal.returns-in_err-put_within
returns-in_err-put_within g c =
    let p = err_from_is_err_and c.from_residual.result c.from_residual.ensures.1 in
    rw p.1 (fails_after _ _ _ [] (within_text c.args.before.now c.args.none_within) (codes "\n") _ (appends_none _) c.in_err-put_within.ensures.0 refl, c.in_err-put_within.ensures.1)

pub returns : goal.returns
returns g c =
    finishes _ _ _ _ _ _ c.put_all.result (within_text c.args.before.now c.args.none_within) (codes "\n") (within_text c.args.before.now c.args.none_within ++ codes "\n") c.in_ok-put_within.ensures.0 c.in_ok-put_within.ensures.1 c.put_all.ensures refl
