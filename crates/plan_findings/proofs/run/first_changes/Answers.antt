use Rattle.std.proofs.Common.{◌≡◌, None, subst}
use Rattle.htn_model.specs.Grounding.{problem_of}
use Rattle.plan_causes.proofs.Failing.{no_run}
use Rattle.plan_lines.specs.Run.{IsOutcome, run_tasks}
use Rattle.plan_lines.specs.declared.course.Outcome.{Outcome}
use Rattle.plan_findings.proofs.run.first_changes.Goals as goal

pub returns-in-Fails : goal.returns-in-Fails
returns-in-Fails c =
    let t = c.args.task.now in
    let tasks = c.args.tasks.now in
    let failing = subst (λ (o : Outcome). IsOutcome (problem_of t) tasks o) c.in-Fails.is c.in_ok-outcome.ensures in
    let never : run_tasks (problem_of t) t.initial_atoms tasks ≡ None =
    no_run (problem_of t) t.initial_atoms tasks c.in-Fails.field-0 failing.state failing.task failing.reaches failing.is failing.fails in
    let reached = c.requires.1 in
    absurd cc
