-- What the run of the action lines' tasks comes to for the lines.
use Rattle.std.specs.Prelude.{◌≡◌, ℕ, ◌≤◌, List, [], ◌∷◌, length, Some, slice_get}
use Rattle.htn_model.specs.State.{State}
use Rattle.htn_model.specs.Literal.{Literal, holds}
use Rattle.htn_model.specs.Problem.{GroundTask, Problem}
use Rattle.htn_model.specs.PlanFile.{ActionLine, PlanFile, Naming}
use Rattle.htn_model.specs.Shown.{LinesRun}
use Rattle.htn_model.specs.Verdict.{IsFirstFailing, Ends}
use Rattle.plan_lines.specs.Run.{IsFailing, IsHistoryOf}
use Rattle.plan_lines.specs.Turns.{History, literals_truth}

-- the words of the lines name these tasks, in turn
abbrev pub AreTasksOf : Naming → List ActionLine → List GroundTask → Type 0
AreTasksOf naming [] tasks = tasks ≡ []
AreTasksOf naming (line ∷ lines) [] = ⊥
AreTasksOf naming (line ∷ lines) (t ∷ tasks) = (naming.named line.name line.arguments ≡ Some t) × AreTasksOf naming lines tasks

-- the run of the tasks that action lines name is the run of the lines
pub record RunsAreOfLines (naming : Naming) (problem : Problem) : Type 0 where
  -- where a task can't be done its line is the first that can't
  pub fails : (file : PlanFile) (tasks : List GroundTask) → AreTasksOf naming file.actions tasks → (i : ℕ) → IsFailing problem tasks i
      → (line : ActionLine) → slice_get file.actions i ≡ Some line → IsFirstFailing naming problem file line.id
  -- otherwise the lines run, and the goal holds if it does in the last gap
  pub ends : (file : PlanFile) (tasks : List GroundTask) (h : History) → AreTasksOf naming file.actions tasks → IsHistoryOf problem tasks h
      → Ends naming problem file (literals_truth h problem.goal (length file.actions))
  -- literals hold in the states between the lines exactly where they hold in the gaps
  pub states : (file : PlanFile) (tasks : List GroundTask) (h : History) (states : ℕ → State) → AreTasksOf naming file.actions tasks → IsHistoryOf problem tasks h
      → LinesRun naming problem file states → (k : ℕ) → k ≤ length file.actions → (literals : List Literal) → holds (states k) literals ≡ literals_truth h literals k
