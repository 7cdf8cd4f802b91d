use Rattle.std.proofs.Common.{refl}
use Rattle.std.proofs.lemmas.Result.{err_from_is_err_and}
use Rattle.htn_review.proofs.Judging.{refused_plan, refused_no_output, unjudged_refused}
use Rattle.htn_review.proofs.OneVerdict.{valid_is_solved}
use Rattle.htn_review.proofs.Refusing.{ok_more, err_more}
use Rattle.htn_review.proofs.judge.run_verify.Goals as goal

pub returns-in_err-task-clause-refused :
    goal.returns-in_err-task-clause-refused
returns-in_err-task-clause-refused g c =
    let p = err_from_is_err_and c.from_residual.result c.from_residual.ensures.1 in
    rw (p.1, p.2) (λ other. (refused_plan c.args.domain.now c.args.problem.now c.args.plan.now _ c.in_err-task.ensures.refused, refl))

pub returns-in_err-task-clause-cut_short :
    goal.returns-in_err-task-clause-cut_short
returns-in_err-task-clause-cut_short g c =
    let p = err_from_is_err_and c.from_residual.result c.from_residual.ensures.1 in
    rw (p.1, p.2)
    (λ e. absurd (refused_no_output c.args.domain.now c.args.problem.now c.args.plan.now _
    (refused_plan c.args.domain.now c.args.problem.now c.args.plan.now _ c.in_err-task.ensures.refused) e))

pub returns-clause-verdict : goal.returns-clause-verdict
returns-clause-verdict g c =
    ok_more _ _ c.judge_task.result (λ verdict h. (h.0, (c.in_ok-task.task, c.in_ok-task.ensures.task, h.1), h.2)) c.judge_task.ensures.verdict

pub returns-clause-valid : goal.returns-clause-valid
returns-clause-valid g c =
    ok_more _ _ c.judge_task.result
    (λ verdict h. valid_is_solved c.args.domain.now c.args.problem.now c.args.plan.now verdict h.0 (c.in_ok-task.task, c.in_ok-task.ensures.task, h.1))
    c.judge_task.ensures.verdict

pub returns-clause-refused : goal.returns-clause-refused
returns-clause-refused g c =
    err_more _ _ c.judge_task.result
    (λ fault h e. let k = h e in (unjudged_refused c.args.domain.now c.args.problem.now c.args.plan.now c.in_ok-task.task c.in_ok-task.ensures.task fault k.0, k.1))
    c.judge_task.ensures.refused

pub returns-clause-cut_short : goal.returns-clause-cut_short
returns-clause-cut_short g c =
    err_more _ _ c.judge_task.result (λ fault h e. let k = h e in ((c.in_ok-task.task, c.in_ok-task.ensures.task, k.0), k.1)) c.judge_task.ensures.cut_short
