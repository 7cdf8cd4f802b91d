use Rattle.htn_review.specs.declared.outcome.Outcome.TheVariants.{Found, NoPlan, Unsolvable}
use Rattle.htn_run.proofs.Saying.{says_plan, says_none, says_unsolvable, cut_short}
use Rattle.htn_review.proofs.Refusing.{at_error}
use Rattle.htn_run.proofs.answer.write_answer.Goals as goal

pub returns-in_err-write_plan-in-Plan-clause-cut_short :
    goal.returns-in_err-write_plan-in-Plan-clause-cut_short
returns-in_err-write_plan-in-Plan-clause-cut_short g c =
    let says = says_plan c.args.task.now c.args.bound c.args.answer.now c.requires c.in-Plan.solution _ c.in-Plan.is c.in_ok-file-in-Plan.ensures.value in
    let failed = c.in_err-write_plan-in-Plan.ensures in
    at_error _ c.from_residual-in_err-write_plan-in-Plan.result (λ e is. (cut_short c.args.task.now c.args.bound Found _ _ _ says failed.0, failed.1))

pub returns-in_err-put_all-in-None-clause-cut_short :
    goal.returns-in_err-put_all-in-None-clause-cut_short
returns-in_err-put_all-in-None-clause-cut_short g c =
    let says = says_none c.args.task.now c.args.bound c.args.answer.now c.requires c.in-None.is in
    let failed = c.in_err-put_all-in-None.ensures in
    at_error _ c.from_residual-in_err-put_all-in-None.result (λ e is. (cut_short c.args.task.now c.args.bound NoPlan _ _ _ says failed.0, failed.1))

pub returns-in_err-put_all-in-Unsolvable-clause-cut_short :
    goal.returns-in_err-put_all-in-Unsolvable-clause-cut_short
returns-in_err-put_all-in-Unsolvable-clause-cut_short g c =
    let says = says_unsolvable c.args.task.now c.args.bound c.args.answer.now c.requires c.in-Unsolvable.is in
    let failed = c.in_err-put_all-in-Unsolvable.ensures in
    at_error _ c.from_residual-in_err-put_all-in-Unsolvable.result (λ e is. (cut_short c.args.task.now c.args.bound Unsolvable _ _ _ says failed.0, failed.1))

pub returns-in_ok-write_plan-in-Plan-clause-says :
    goal.returns-in_ok-write_plan-in-Plan-clause-says
returns-in_ok-write_plan-in-Plan-clause-says g c = (
  _,
  says_plan c.args.task.now c.args.bound c.args.answer.now c.requires c.in-Plan.solution _ c.in-Plan.is c.in_ok-file-in-Plan.ensures.value,
  c.in_ok-write_plan-in-Plan.ensures.0,
)

pub returns-in_ok-put_all-in-Unsolvable-clause-says :
    goal.returns-in_ok-put_all-in-Unsolvable-clause-says
returns-in_ok-put_all-in-Unsolvable-clause-says g c =
    (_, says_unsolvable c.args.task.now c.args.bound c.args.answer.now c.requires c.in-Unsolvable.is, c.in_ok-put_all-in-Unsolvable.ensures.0)
