use Rattle.std.proofs.lemmas.Result.{err_from_is_err_and}
use Rattle.htn_review.proofs.Judging.{refused_plan, unjudged_refused}
use Rattle.htn_review.proofs.Refusing.{ok_more, err_more}
use Rattle.htn_review.proofs.Sighting.{pair_has_task, sight_shows}
use Rattle.htn_review.proofs.sight.sight_of_texts.Goals as goal

pub returns-in_err-pair-clause-refused : goal.returns-in_err-pair-clause-refused
returns-in_err-pair-clause-refused c =
    let p = err_from_is_err_and c.from_residual.result c.from_residual.ensures.1 in
    rw (p.1, p.2) (refused_plan c.args.inputs.domain.text.now c.args.inputs.problem.text.now c.args.inputs.plan.text.now _ c.in_err-pair.ensures.refused)

pub returns-clause-sight : goal.returns-clause-sight
returns-clause-sight c =
    ok_more _ _ c.sight_of_text.result
    (λ s h. sight_shows c.args.inputs c.in_ok-pair.pair h.0 c.args.look.drawing c.args.look.has_details s c.in_ok-pair.ensures.pair h.1 h.2)
    c.sight_of_text.ensures.sight

pub returns-clause-refused : goal.returns-clause-refused
returns-clause-refused c =
    err_more _ _ c.sight_of_text.result
    (λ fault h. unjudged_refused c.args.inputs.domain.text.now c.args.inputs.problem.text.now c.args.inputs.plan.text.now c.in_ok-pair.pair.task
    (pair_has_task c.args.inputs.domain.text.now c.args.inputs.problem.text.now c.in_ok-pair.pair c.in_ok-pair.ensures.pair) fault h)
    c.sight_of_text.ensures.refused
