use Rattle.htn_review.proofs.texts.task_of_trees.Goals as goal

pub returns-in_default : goal.returns-in_default
returns-in_default c = record {
  fits = tt;
  task = tt;
  refused = λ first second bounds domain_spelled problem_spelled. (
    c.args.domain.now,
    c.args.problem.now,
    domain_spelled,
    problem_spelled,
    c.in-Err.ensures.fault (λ e. c.in_default.not-OutOfMemory e),
  );
  named = λ first second domain_spelled problem_spelled. (
    c.args.domain.now,
    c.args.problem.now,
    domain_spelled,
    problem_spelled,
    c.in-Err.ensures.fault (λ e. c.in_default.not-OutOfMemory e),
    c.in-Err.ensures.named (λ e. c.in_default.not-OutOfMemory e),
  );
}
