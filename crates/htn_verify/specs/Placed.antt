-- The lines of a file with their tasks, as the search for room takes them.
use Rattle.std.specs.Prelude.{◌≡◌, ℕ, ◌+◌, ◌≤◌, ◌<◌, All, List, length, take}
use Rattle.std.specs.Option.{unwrap_or}
use Rattle.htn_ground.specs.Naming.{naming_of}
use Rattle.htn_model.specs.Grounding.{problem_of}
use Rattle.htn_model.specs.Literal.{Literal, holds}
use Rattle.htn_model.specs.PlanFile.{ActionLine, Naming, PlanFile}
use Rattle.htn_model.specs.Problem.{GroundTask, Problem}
use Rattle.htn_model.specs.State.{State}
use Rattle.htn_model.specs.Task.{Task}
use Rattle.htn_model.specs.Verdict.{run_lines}
use Rattle.plan_text.specs.Forest.{Forest}
use Rattle.plan_text.specs.Plans.{tree_at}
use Rattle.plan_text.specs.Reached.{children_at}
use Rattle.plan_room.specs.Lines.{Lines}
use Rattle.plan_lines.specs.Turns.{History, IsHistory, literals_truth}
use Rattle.htn_verify.specs.Tasks.{task_at}

-- the state after the first `k` action lines, if they can be carried out
abbrev pub state_after : Naming → Problem → List ActionLine → ℕ → State
state_after naming problem lines k = unwrap_or (run_lines naming problem problem.initial_state (take k lines)) problem.initial_state

-- the lines of a forest, with their tasks and the states between the action lines
abbrev pub placed_lines : Task → PlanFile → Forest → List GroundTask → Lines
placed_lines t file forest tasks = record {
  naming = naming_of t;
  problem = problem_of t;
  states = state_after (naming_of t) (problem_of t) file.actions;
  actions = length file.actions;
  count = length tasks;
  plan_of = tree_at (task_at tasks) file forest;
  children = children_at (length file.actions) forest.children;
  roots = forest.roots;
}

-- each line has a task, roots and children are lines, and the history is that of the states between the action lines
pub record ArePlaced (t : Task) (file : PlanFile) (forest : Forest) (tasks : List GroundTask) (h : History) : Type 0 where
  pub many : length tasks ≡ length file.actions + length file.decompositions
  pub children_low : (i : ℕ) → All (λ c. c < length tasks) (children_at (length file.actions) forest.children i)
  pub roots_low : All (λ c. c < length tasks) forest.roots
  pub history : IsHistory h
  pub last : h.last ≡ length file.actions
  pub states : (k : ℕ) → k ≤ length file.actions → (literals : List Literal)
      → holds (state_after (naming_of t) (problem_of t) file.actions k) literals ≡ literals_truth h literals k
