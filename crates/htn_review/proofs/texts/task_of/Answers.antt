use Rattle.std.proofs.lemmas.Result.{err_from_is_err_and}
use Rattle.htn_review.proofs.texts.task_of.Goals as goal

pub returns-in_err-domain_tree-clause-refused :
    goal.returns-in_err-domain_tree-clause-refused
returns-in_err-domain_tree-clause-refused c =
    let p = err_from_is_err_and c.from_residual.result c.from_residual.ensures.1 in
    rw (p.1, p.2) (λ bounds. c.in_err-domain_tree.ensures.refused c.args.problem.now bounds)

pub returns-in_err-problem_tree-clause-refused :
    goal.returns-in_err-problem_tree-clause-refused
returns-in_err-problem_tree-clause-refused c =
    let p = err_from_is_err_and c.from_residual-in_err-problem_tree.result c.from_residual-in_err-problem_tree.ensures.1 in
    rw (p.1, p.2) (λ bounds. c.in_err-problem_tree.ensures.refused c.args.domain.now c.in_ok-domain_tree.domain_tree bounds c.in_ok-domain_tree.ensures.spelled)

pub returns-in_err-task-clause-refused : goal.returns-in_err-task-clause-refused
returns-in_err-task-clause-refused c =
    let p = err_from_is_err_and c.from_residual-in_err-task.result c.from_residual-in_err-task.ensures.1 in
    rw (p.1, p.2)
    (λ bounds. c.in_err-task.ensures.refused c.args.domain.now c.args.problem.now bounds c.in_ok-domain_tree.ensures.spelled c.in_ok-problem_tree.ensures.spelled)

pub returns-in_err-domain_tree-clause-named : goal.returns-in_err-domain_tree-clause-named
returns-in_err-domain_tree-clause-named c =
    let p = err_from_is_err_and c.from_residual.result c.from_residual.ensures.1 in
    rw (p.1, p.2) (c.in_err-domain_tree.ensures.named c.args.problem.now)

pub returns-in_err-problem_tree-clause-named : goal.returns-in_err-problem_tree-clause-named
returns-in_err-problem_tree-clause-named c =
    let p = err_from_is_err_and c.from_residual-in_err-problem_tree.result c.from_residual-in_err-problem_tree.ensures.1 in
    rw (p.1, p.2) (c.in_err-problem_tree.ensures.named c.args.domain.now)

pub returns-in_err-task-clause-named : goal.returns-in_err-task-clause-named
returns-in_err-task-clause-named c =
    let p = err_from_is_err_and c.from_residual-in_err-task.result c.from_residual-in_err-task.ensures.1 in
    rw (p.1, p.2)
    (c.in_err-task.ensures.named c.args.domain.now c.args.problem.now c.in_ok-domain_tree.ensures.spelled c.in_ok-problem_tree.ensures.spelled)

pub returns-clause-task : goal.returns-clause-task
returns-clause-task c = record {
  domain_tree = c.in_ok-domain_tree.domain_tree;
  problem_tree = c.in_ok-problem_tree.problem_tree;
  domain_spelled = c.in_ok-domain_tree.ensures.spelled;
  problem_spelled = c.in_ok-problem_tree.ensures.spelled;
  fits = c.in_ok-task.ensures.fits;
  is_task = c.in_ok-task.ensures.task;
}
