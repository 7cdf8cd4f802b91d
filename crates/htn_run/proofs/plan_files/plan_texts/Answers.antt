use Rattle.std.proofs.Common.{inl, inr, refl}
use Rattle.std.proofs.lemmas.Result.{err_from_is_err_and}
use Rattle.htn_review.proofs.Refusing.{refused_output, ok_more, err_more, want_is_named, want_refuses}
use Rattle.htn_run.proofs.plan_files.plan_texts.Goals as goal

pub returns-in_err-task-clause-refused : goal.returns-in_err-task-clause-refused
returns-in_err-task-clause-refused g c =
    let p = err_from_is_err_and c.from_residual.result c.from_residual.ensures.1 in
    rw (p.1, p.2) (λ other. (c.in_err-task.ensures.refused c.args.bounds, refl))

pub returns-in_err-task-clause-cut_short : goal.returns-in_err-task-clause-cut_short
returns-in_err-task-clause-cut_short g c =
    let p = err_from_is_err_and c.from_residual.result c.from_residual.ensures.1 in
    rw (p.1, p.2) (λ e. absurd (refused_output c.args.domain.now c.args.problem.now c.args.bounds _ (c.in_err-task.ensures.refused c.args.bounds) e))

pub returns-in_err-task-clause-named : goal.returns-in_err-task-clause-named
returns-in_err-task-clause-named g c =
    let p = err_from_is_err_and c.from_residual.result c.from_residual.ensures.1 in
    rw (p.1, p.2) c.in_err-task.ensures.named

pub returns-in_err-task-clause-shows : goal.returns-in_err-task-clause-shows
returns-in_err-task-clause-shows g c = inl refl

pub returns-clause-answer : goal.returns-clause-answer
returns-clause-answer g c =
    ok_more _ _ c.plan_task.result (λ watched h. (h.0, (c.in_ok-task.task, c.in_ok-task.ensures.task, h.1), h.2)) c.plan_task.ensures.answer

pub returns-clause-cut_short : goal.returns-clause-cut_short
returns-clause-cut_short g c =
    err_more _ _ c.plan_task.result (λ fault h e. let k = h e in ((c.in_ok-task.task, c.in_ok-task.ensures.task, k.0), k.1)) c.plan_task.ensures.cut_short

pub returns-clause-refused : goal.returns-clause-refused
returns-clause-refused g c =
    err_more _ _ c.plan_task.result (λ fault h e. let k = h e in (want_refuses c.args.domain.now c.args.problem.now c.args.bounds fault k.0, k.1)) c.plan_task.ensures.refused

pub returns-clause-named : goal.returns-clause-named
returns-clause-named g c =
    err_more _ _ c.plan_task.result (λ fault h. want_is_named c.args.domain.now c.args.problem.now c.args.bounds fault (λ e. (h e).0)) c.plan_task.ensures.refused

pub returns-clause-shows : goal.returns-clause-shows
returns-clause-shows g c = inr (c.in_ok-task.task, c.in_ok-task.ensures.task, c.plan_task.ensures.shows)
