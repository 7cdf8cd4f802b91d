use Rattle.std.proofs.Common.{[], refl}
use Rattle.std.specs.Prelude.{◌++◌, codes}
use Rattle.std.specs.Fmt.{decimal}
use Rattle.std.proofs.lemmas.Result.{err_from_is_err_and}
use Rattle.plan_text.proofs.Taken.{appends_none, fails_after, finishes}
use Rattle.htn_run.proofs.progress.put_number.Goals as goal

pub returns-in_err-put_all : goal.returns-in_err-put_all
returns-in_err-put_all g c =
    let p = err_from_is_err_and c.from_residual.result c.from_residual.ensures.1 in
    rw p.1 (fails_after _ _ _ [] (c.args.before.now) (decimal c.args.number) _ (appends_none _) c.in_err-put_all.ensures.0 refl, c.in_err-put_all.ensures.1)
