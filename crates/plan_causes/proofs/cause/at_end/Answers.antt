use Rattle.std.proofs.Common.{length, subst, sym, ap, ◌∙◌}
use Rattle.htn_model.specs.Grounding.{problem_of}
use Rattle.plan_lines.specs.Turns.{literals_truth}
use Rattle.plan_causes.specs.Causes.{AreStandings, StandsIn}
use Rattle.plan_causes.proofs.Standings.{ends_with, standings_at_end}
use Rattle.plan_causes.proofs.cause.at_end.Goals as goal

pub returns-then-holds : goal.returns-then-holds
returns-then-holds c =
    let tasks = c.args.tasks.now in
    let turns = c.args.turns.now in
    ends_with (problem_of c.args.task.now) tasks turns c.requires _
    (ap (λ ls. literals_truth turns ls (length tasks)) (sym (c.as_slice.ensures ∙ c.in_ok-goal.ensures)) ∙ sym c.holds.ensures ∙ c.if-holds.true)

pub returns : goal.returns
returns c =
    let tasks = c.args.tasks.now in
    let turns = c.args.turns.now in
    let problem = problem_of c.args.task.now in
    let goals = c.as_slice.ensures ∙ c.in_ok-goal.ensures in (
      ends_with problem tasks turns c.requires _ (ap (λ ls. literals_truth turns ls (length tasks)) (sym goals) ∙ sym c.holds.ensures ∙ c.if-holds.false),
      standings_at_end problem tasks turns c.requires problem.goal c.in_ok-standings.standings.items
          (subst (λ ls. AreStandings (StandsIn turns (length tasks)) ls c.in_ok-standings.standings.items) (c.as_slice-2.ensures ∙ c.in_ok-goal.ensures) c.in_ok-standings.ensures),
    )
