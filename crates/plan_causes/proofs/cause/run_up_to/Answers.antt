use Rattle.std.proofs.Common.{◌≡◌, None, Some, sym, subst, ◌∙◌, take}
use Rattle.htn_model.specs.Grounding.{problem_of}
use Rattle.plan_lines.specs.Run.{IsOutcome}
use Rattle.plan_causes.proofs.Failing.{no_run}
use Rattle.plan_causes.proofs.cause.run_up_to.Goals as goal

pub unreachable-requires : goal.unreachable-requires
unreachable-requires c =
    let problem = problem_of c.args.task.now in
    let tasks = take c.args.number c.args.tasks.now in
    let failing = subst (IsOutcome problem tasks) c.in-Fails.is c.in_ok-turns.ensures in
    let none = no_run problem problem.initial_state tasks c.in-Fails.field-0 failing.state failing.task failing.reaches failing.is failing.fails in
    let reaches = c.requires.reaches in
    let both : None ≡ Some c.requires.state = sym none ∙ reaches in
    absurd cc
