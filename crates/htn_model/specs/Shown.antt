-- The forest that a file's lines are, the states between its action lines, and which files are accepted.
use Rattle.std.specs.Prelude.{◌≡◌, ◌↔◌, ℕ, suc, List, [], ◌∷◌, length, Some, true, slice_get}
use Rattle.htn_model.specs.State.{State}
use Rattle.htn_model.specs.Literal.{holds}
use Rattle.htn_model.specs.Problem.{Problem}
use Rattle.htn_model.specs.PlanFile.{ActionLine, DecompositionLine, PlanFile, Naming, IsIn, IsForest}
use Rattle.htn_model.specs.Fits.{PlanTree, action_at, decomposition, PlanTrees, no_plans, plan, ForestFits}
use Rattle.htn_model.specs.Shadow.{IsAccepted}
use Rattle.htn_model.specs.Verdict.{perform_line, AllHave, Ends, no_arrangement, valid, IsVerdict}

abbrev mutual
  -- the line with this id, and the lines below it, are the plan
  pub ShowsTree : Naming → PlanFile → ℕ → PlanTree → Type 0
  ShowsTree naming file id (action_at g i) =
      (line : ActionLine) × (slice_get file.actions i ≡ Some line) × (line.id ≡ id) × (naming.named line.name line.arguments ≡ Some g)
  ShowsTree naming file id (decomposition t method plans) =
      (line : DecompositionLine) × IsIn line file.decompositions × (line.id ≡ id) × (naming.named line.task line.arguments ≡ Some t) × (line.method ≡ method)
      × ShowTrees naming file line.children plans

  -- the lines with these ids are the plans, in turn
  pub ShowTrees : Naming → PlanFile → List ℕ → PlanTrees → Type 0
  ShowTrees naming file ids no_plans = ids ≡ []
  ShowTrees naming file [] (plan p plans) = ⊥
  ShowTrees naming file (id ∷ ids) (plan p plans) = ShowsTree naming file id p × ShowTrees naming file ids plans

-- the literals of each action line hold when it comes, and the goal at the end; state i is the one after i lines
pub record LinesRun (naming : Naming) (problem : Problem) (file : PlanFile) (states : ℕ → State) : Type 0 where
  pub starts : states 0 ≡ problem.initial_state
  pub performs : (i : ℕ) (line : ActionLine) → slice_get file.actions i ≡ Some line → perform_line naming problem (states i) line ≡ Some (states (suc i))
  pub ends : holds (states (length file.actions)) problem.goal ≡ true

-- a forest of lines with instances is plan trees, and where the lines run to the goal there are states between them
pub record FilesArePlans (naming : Naming) (problem : Problem) : Type 0 where
  pub plans : (file : PlanFile) → IsForest file → AllHave naming problem file → (plans : PlanTrees) × ShowTrees naming file file.roots plans
  pub states : (file : PlanFile) → Ends naming problem file true → (states : ℕ → State) × LinesRun naming problem file states

-- a forest of lines that run is accepted exactly where the lines have room
pub record FitIsAcceptance (naming : Naming) (problem : Problem) : Type 0 where
  pub accepted : (file : PlanFile) (states : ℕ → State) (plans : PlanTrees) → IsForest file → LinesRun naming problem file states → ShowTrees naming file file.roots plans
      → ForestFits naming problem states plans (length file.actions) → IsAccepted naming problem file
  pub fits : (file : PlanFile) (states : ℕ → State) (plans : PlanTrees) → IsForest file → LinesRun naming problem file states → ShowTrees naming file file.roots plans
      → IsAccepted naming problem file → ForestFits naming problem states plans (length file.actions)

-- a file is valid exactly where it is the shadow of a solution: such a file is a forest of lines with instances that
-- run to the goal
abbrev pub ValidIsAcceptance : Naming → Problem → Type 0
ValidIsAcceptance naming problem = (file : PlanFile) → IsVerdict naming problem file valid ↔ IsAccepted naming problem file

-- so, once the other conditions hold, whether the file's lines have room decides between the last two verdicts
pub record RoomIsVerdict (naming : Naming) (problem : Problem) : Type 0 where
  pub is_valid : (file : PlanFile) (states : ℕ → State) (plans : PlanTrees) → IsForest file → LinesRun naming problem file states → ShowTrees naming file file.roots plans
      → ForestFits naming problem states plans (length file.actions) ↔ IsVerdict naming problem file valid
  pub is_not : (file : PlanFile) (states : ℕ → State) (plans : PlanTrees) → IsForest file → AllHave naming problem file → Ends naming problem file true
      → LinesRun naming problem file states → ShowTrees naming file file.roots plans
      → (ForestFits naming problem states plans (length file.actions) → ⊥) ↔ IsVerdict naming problem file no_arrangement
