-- Why a plan file has its verdict.
use Rattle.std.specs.Prelude.{◌≡◌, ℕ, List, [], ◌∷◌, map, slice_get, Option, Some, None, option_and_then}
use Rattle.std.specs.List.{flat_map}
use Rattle.std.specs.Option.{option_to_list}
use Rattle.htn_ground.specs.Naming.{naming_of}
use Rattle.htn_model.specs.Grounding.{problem_of}
use Rattle.htn_model.specs.Literal.{Action}
use Rattle.htn_model.specs.PlanFile.{ActionLine, Naming, PlanFile}
use Rattle.htn_model.specs.Problem.{GroundTask}
use Rattle.htn_model.specs.Task.{Task}
use Rattle.plan_causes.specs.Causes.{IsRunCause}
use Rattle.plan_causes.specs.Structure.{AreWrong}
use Rattle.plan_causes.specs.declared.cause.RunCause.{RunCause}
use Rattle.plan_causes.specs.declared.cause.RunCause.TheVariants as run
use Rattle.plan_causes.specs.declared.standing.Standing.{Standing}
use Rattle.plan_findings.specs.Falsities.{AreFalsities}
use Rattle.plan_findings.specs.Words.{bracketed}
use Rattle.plan_causes.specs.declared.reason.Cause.{Cause}
use Rattle.plan_causes.specs.declared.reason.Cause.TheVariants as cause
use Rattle.plan_causes.specs.declared.reason.FailedAction.{FailedAction}

-- what the words of an action line name
abbrev pub action_task : Naming → ActionLine → Option GroundTask
action_task naming line = naming.named line.name line.arguments

-- the tasks that the action lines name
abbrev pub tasks_of : Task → PlanFile → List GroundTask
tasks_of t file = flat_map option_to_list (map (action_task (naming_of t)) file.actions)

-- the words of an action line in brackets, if there is a line
abbrev pub line_text : Option ActionLine → List ℕ
line_text (Some line) = bracketed line.name line.arguments
line_text None = []

-- the task of this number, as its line has it, with exactly the literals of its precondition that are false there
pub record IsFailed (t : Task) (file : PlanFile) (tasks : List GroundTask) (n : ℕ) (standings : List Standing) (failed : FailedAction) : Type 0 where
  pub number : failed.number ≡ n
  pub text : failed.text.items ≡ line_text (slice_get file.actions n)
  pub literals : (action : Action) → option_and_then (problem_of t).action_of (slice_get tasks n) ≡ Some action
      → AreFalsities t action.precondition standings failed.literals.items

-- the cause is that of the run: the first action that can't be carried out, or exactly the literals of the goal that
-- are false at the end
abbrev pub IsCauseOf : Task → PlanFile → List GroundTask → RunCause → Cause → Type 0
IsCauseOf t file tasks (run.Fails n standings) (cause.NotExecutable failed) = IsFailed t file tasks n standings.items failed
IsCauseOf t file tasks (run.GoalFails standings) (cause.GoalFails literals) = AreFalsities t (problem_of t).goal standings.items literals.items
IsCauseOf t file tasks run.Holds cause.Valid = Unit {0}
IsCauseOf t file tasks _ _ = ⊥

-- the cause is that of the run of the action lines
abbrev pub IsRunReason : Task → PlanFile → Cause → Type 0
IsRunReason t file c = (found : RunCause) × IsRunCause (problem_of t) (tasks_of t file) found × IsCauseOf t file (tasks_of t file) found c

-- the numbers with which something is wrong; of the line that no root reaches nothing is said
abbrev pub IsStructureReason : PlanFile → Cause → Type 0
IsStructureReason file (cause.Structure wrong unreached) = AreWrong file wrong
IsStructureReason file _ = ⊥
