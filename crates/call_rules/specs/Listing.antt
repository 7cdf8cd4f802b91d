-- The steps of the listing machine of a task, which are those of a problem.
use Rattle.std.specs.Prelude.{◌≡◌, ℕ, map}
use Rattle.htn_model.specs.Grounding.{problem_of}
use Rattle.htn_model.specs.Levels.{Stepping}
use Rattle.htn_model.specs.Machine.{Config, step_by}
use Rattle.htn_model.specs.Problem.{Problem}
use Rattle.htn_model.specs.Task.{Task}
use Rattle.htn_walk.specs.Listed.{listed_methods, listed_initials, listing_machine}

-- the steps of the listing machine
abbrev pub listed_step : Task → Stepping
listed_step t = (listing_machine t).step

-- the problem of a task with only the networks that a search lists, so that the ranks of these are their numbers
abbrev pub listed_problem : Task → Problem
listed_problem t = record {
  initials = map (λ p. p.1.network) (listed_initials t);
  methods_of = λ g. map (λ p. p.1.network) (listed_methods t g);
  action_of = (problem_of t).action_of;
  is_changed = (problem_of t).is_changed;
  initial_state = (problem_of t).initial_state;
  goal = (problem_of t).goal;
}

-- the listing machine steps as this problem's machine
abbrev pub StepsAsProblem : Task → Type 0
StepsAsProblem t = (c : Config) (rank : ℕ) → listed_step t c rank ≡ step_by (listed_problem t) c rank
