use Rattle.std.proofs.Common.{◌≡◌, [], ◌∷◌, ◌++◌, map, take, drop, refl, sym, ap, ◌∙◌, append_assoc}
use Rattle.std.proofs.lemmas.Result.{err_from_is_err_and}
use Rattle.plan_text.proofs.Taken.{appends_none, fails_after, finishes}
use Rattle.plan_text.proofs.writer.put_spaced.Goals as goal

pub returns-in_err-put_all : goal.returns-in_err-put_all
returns-in_err-put_all g c =
    let p = err_from_is_err_and c.from_residual.result c.from_residual.ensures.1 in
    rw p.1 (fails_after _ _ _ [] (32 ∷ []) c.args.word.now _ (appends_none _) c.in_err-put_all.ensures.0 refl, c.in_err-put_all.ensures.1)

pub returns : goal.returns
returns g c =
    finishes _ _ _ _ _ _ c.put_all-2.result (32 ∷ []) c.args.word.now _ c.in_ok-put_all.ensures.0 c.in_ok-put_all.ensures.1 c.put_all-2.ensures refl
