use Rattle.std.proofs.Common.{[], ◌++◌, append_assoc, refl, ◌∙◌}
use Rattle.std.specs.Prelude.{codes}
use Rattle.std.proofs.lemmas.Result.{err_from_is_err_and}
use Rattle.plan_text.proofs.Taken.{appends_none, appends_more, fails_after, finishes}
use Rattle.htn_review.specs.Judgement.{line_text}
use Rattle.htn_review.proofs.verdict.put_fault.Goals as goal

pub returns-in_err-put_all : goal.returns-in_err-put_all
returns-in_err-put_all g c =
    let p = err_from_is_err_and c.from_residual.result c.from_residual.ensures.1 in
    rw p.1 (fails_after _ _ _ [] c.args.cause.now (line_text c.args.line ++ codes "\n") _ (appends_none _) c.in_err-put_all.ensures.0 (append_assoc c.args.cause.now (line_text c.args.line) (codes "\n")), c.in_err-put_all.ensures.1)

pub returns-in_err-put_line : goal.returns-in_err-put_line
returns-in_err-put_line g c =
    let p = err_from_is_err_and c.from_residual-in_err-put_line.result c.from_residual-in_err-put_line.ensures.1 in
    rw p.1 (fails_after _ _ _ c.args.cause.now (line_text c.args.line) (codes "\n") _ c.in_ok-put_all.ensures.0 c.in_err-put_line.ensures.0 (append_assoc c.args.cause.now (line_text c.args.line) (codes "\n")), c.in_err-put_line.ensures.1)

pub returns : goal.returns
returns g c =
    finishes _ _ _ _ _ _ c.put_all-2.result (c.args.cause.now ++ line_text c.args.line) (codes "\n") _ (appends_more _ _ _ _ _ c.in_ok-put_all.ensures.0 c.in_ok-put_line.ensures.0)
    (c.in_ok-put_line.ensures.1 ∙ c.in_ok-put_all.ensures.1) c.put_all-2.ensures refl
