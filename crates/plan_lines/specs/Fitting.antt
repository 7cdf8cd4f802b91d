-- The instances of a line that may fit into a run.
use Rattle.std.specs.Prelude.{◌≡◌, ℕ, ◌≤◌, List, true, ⊤}
use Rattle.std.specs.List.{All}
use Rattle.htn_model.specs.Literal.{Literal, atom}
use Rattle.htn_model.specs.PlanFile.{IsIn}
use Rattle.htn_model.specs.Problem.{Child, GroundTask, Network, precondition}
use Rattle.plan_lines.specs.Turns.{History, truth}
use Rattle.plan_lines.specs.Lines.{HasSubtasks}

-- whether a literal may ever hold: a positive one only where its atom is true in some gap
abbrev pub MayHold : History → Literal → Type 0
MayHold h (atom true a) = (k : ℕ) × (k ≤ h.last) × (truth h a k ≡ true)
MayHold h _ = ⊤

-- each literal of each step may hold
abbrev pub StepsMayHold : History → List Child → Type 0
StepsMayHold h children = (literals : List Literal) → IsIn (precondition literals) children → All (MayHold h) literals

-- nothing but such networks, and each with these subtasks whose steps may hold
pub record AreToFit (h : History) (IsOne : Network → Type 0) (tasks : List GroundTask) (networks : List Network) : Type 0 where
  pub each : (network : Network) → IsIn network networks → IsOne network
  pub all : (network : Network) → IsOne network → HasSubtasks tasks network → StepsMayHold h network.children → IsIn network networks
