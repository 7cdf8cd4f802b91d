-- Each plan file has a verdict.
use Rattle.std.proofs.Common.{◌≡◌, length, Some, None, Bool, true, false, ◌⊎◌, inl, inr, refl}
use Rattle.std.specs.List.{AllByRecursion}
use Rattle.htn_model.specs.State.{State}
use Rattle.htn_model.specs.Literal.{holds}
use Rattle.htn_model.specs.Fits.{PlanTrees, ForestFits}
use Rattle.htn_model.specs.Shown.{ShowTrees}
use Rattle.htn_model.specs.PlanFile.{PlanFile, Naming, IsForest}
use Rattle.htn_model.specs.Problem.{IsGrounded, Problem}
use Rattle.htn_model.specs.Verdict.{lines_of, name_of, HasInstance, perform_line, run_lines, Verdict, structure, no_instance, not_executable, goal_fails, no_arrangement, valid, AllHave, Ends, IsVerdict}
use Rattle.htn_model.proofs.Between.{states_from, lines_run, lines_named}
use Rattle.htn_model.proofs.Planted.{forest_planted}
use Rattle.htn_model.proofs.Rooms.{room_is_verdict}
use Rattle.htn_review.proofs.Decided.{Decided, Split, first_lacking}
use Rattle.htn_review.proofs.DecidedLines.{forest_decided, instance_decided, line_run}
use Rattle.htn_review.proofs.DecidedRoom.{forest_fits_decided}

module _ (naming : Naming) (problem : Problem) (grounded : IsGrounded problem) (file : PlanFile) where
  -- the file has a verdict
  abbrev HasVerdict : Type 0
  HasVerdict = (v : Verdict) × IsVerdict naming problem file v

  -- a forest of lines with instances that run to the goal is valid, or can't be arranged
  by_room : IsForest file → AllHave naming problem file → Ends naming problem file true → HasVerdict
  by_room forest have ends = by (forest_fits_decided naming problem (states_from naming problem problem.initial_state file.actions) grounded plans.0 (length file.actions))
    where
      plans : (plans : PlanTrees) × ShowTrees naming file file.roots plans
      plans = forest_planted file forest naming (lines_named naming problem file have)

      by : Decided (ForestFits naming problem (states_from naming problem problem.initial_state file.actions) plans.0 (length file.actions)) → HasVerdict
      by (inl fits) = (
        valid,
        ((room_is_verdict naming problem grounded).is_valid file (states_from naming problem problem.initial_state file.actions) plans.0 forest
            (lines_run naming problem file ends) plans.1).0 fits,
      )
      by (inr none) = (
        no_arrangement,
        ((room_is_verdict naming problem grounded).is_not file (states_from naming problem problem.initial_state file.actions) plans.0 forest have ends
            (lines_run naming problem file ends) plans.1).0 none,
      )

  -- and one whose lines reach a state goes on with the goal
  by_goal : IsForest file → AllHave naming problem file → (end : State) → run_lines naming problem problem.initial_state file.actions ≡ Some end
      → (b : Bool) → holds end problem.goal ≡ b → HasVerdict
  by_goal forest have end runs true goal = by_room forest have (end, runs, goal)
  by_goal forest have end runs false goal = (goal_fails, (forest, have, (end, runs, goal)))

  -- the run of lines with instances
  by_run : IsForest file → AllHave naming problem file → HasVerdict
  by_run forest have = by (line_run naming problem file problem.initial_state file.actions)
    where
      by : ((end : State) × (run_lines naming problem problem.initial_state file.actions ≡ Some end))
          ⊎ Split (λ before line others. (state : State) × (run_lines naming problem problem.initial_state before ≡ Some state) × (perform_line naming problem state line ≡ None)) file.actions
          → HasVerdict
      by (inl (end, runs)) = by_goal forest have end runs (holds end problem.goal) refl
      by (inr (before, line, others, is, h)) = (
        not_executable line.id,
        (forest, have, record { before = before; line = line; others = others; lines = is; state = h.0; reaches = h.1; fails = h.2; id_is = refl }),
      )

  -- each file has a verdict
  pub has_verdict : HasVerdict
  has_verdict = by (forest_decided file)
    where
      by_lines : IsForest file
          → AllByRecursion (HasInstance naming problem file) (lines_of file)
          ⊎ Split (λ before line others. AllByRecursion (HasInstance naming problem file) before × (HasInstance naming problem file line → ⊥)) (lines_of file)
          → HasVerdict
      by_lines forest (inl have) = by_run forest have
      by_lines forest (inr (before, line, others, is, h)) = (
        no_instance (name_of line),
        (forest, record { before = before; line = line; others = others; lines = is; fine = h.0; faulty = h.1; name_is = refl }),
      )

      by : Decided (IsForest file) → HasVerdict
      by (inr never) = (structure, never)
      by (inl forest) = by_lines forest (first_lacking (HasInstance naming problem file) (instance_decided naming problem file) (lines_of file))
