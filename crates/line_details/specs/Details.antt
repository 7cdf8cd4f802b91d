-- What a solution adds to the lines of its shadow: which instance of its method a line is, and when the instance's
-- steps are tested.
use Rattle.std.specs.Prelude.{◌≡◌, ◌↔◌, ℕ, ◌+◌, ◌≤◌, List, [], ◌∷◌, ◌++◌, length, Some, cond, true, slice_get}
use Rattle.htn_model.specs.State.{State}
use Rattle.htn_model.specs.Literal.{Literal, holds}
use Rattle.htn_model.specs.Problem.{GroundTask, Problem, Network, precondition}
use Rattle.htn_model.specs.Tree.{step, compound, Nodes, child_at, Place, node_at, Solution, IsSolution}
use Rattle.htn_model.specs.PlanFile.{DecompositionLine, PlanFile, Naming, IsIn}
use Rattle.htn_model.specs.Shadow.{IsShadow}
use Rattle.htn_model.specs.Shown.{LinesRun}
use Rattle.htn_model.specs.Verdict.{valid, IsVerdict}
use Rattle.htn_model.specs.Placement.{duration}
use Rattle.htn_model.specs.Numbered.{is_same_place}

-- how many actions a list of places has before a place
abbrev pub actions_before : Nodes → List Place → Place → ℕ
actions_before trees [] p = 0
actions_before trees (q ∷ qs) p = cond (is_same_place p q) 0 (duration (node_at trees q) + actions_before trees qs p)

-- the number of the initial network, and by the id of a decomposition line the number of its method's instance, and of
-- the step at a position of that instance how many actions are carried out before it
pub record Details : Type 0 where
  pub initial : ℕ
  pub number : ℕ → ℕ
  pub gap : ℕ → ℕ → ℕ

-- the details of the line with this id are those of the compound node at the place
pub record AreDetailsAt (details : Details) (s : Solution) (p : Place) (id n : ℕ) (nodes : Nodes) : Type 0 where
  pub number : details.number id ≡ n
  pub gap : (a : ℕ) (literals : List Literal) → child_at nodes a ≡ Some (step literals)
      → details.gap id a ≡ actions_before s.trees s.linearisation (p ++ a ∷ [])

-- the details of all lines are those of one solution whose shadow the file is
pub record AreDetails (naming : Naming) (problem : Problem) (file : PlanFile) (details : Details) : Type 0 where
  pub solution : Solution
  pub solves : IsSolution problem solution
  pub shadow : IsShadow naming file solution
  pub initial : details.initial ≡ solution.number
  pub each : (p : Place) (t : GroundTask) (n : ℕ) (nodes : Nodes) → node_at solution.trees p ≡ Some (compound t n nodes)
      → AreDetailsAt details solution p (shadow.id_at p) n nodes

-- a file is valid exactly if it has details
abbrev pub ValidFilesHaveDetails : Naming → Problem → Type 0
ValidFilesHaveDetails naming problem = (file : PlanFile) → IsVerdict naming problem file valid ↔ ((details : Details) × AreDetails naming problem file details)

-- ## What details say of a line

-- there is an instance with the number, which is one of the line's method, and its steps hold in their gaps
pub record IsDetailed (naming : Naming) (problem : Problem) (file : PlanFile) (states : ℕ → State) (details : Details) (line : DecompositionLine) : Type 0 where
  pub t : GroundTask
  pub network : Network
  pub named : naming.named line.task line.arguments ≡ Some t
  pub is_instance : slice_get (problem.methods_of t) (details.number line.id) ≡ Some network
  pub method : line.method ≡ naming.method_name t (details.number line.id)
  pub steps : (a : ℕ) (literals : List Literal) → slice_get network.children a ≡ Some (precondition literals)
      → (details.gap line.id a ≤ length file.actions) × (holds (states (details.gap line.id a)) literals ≡ true)

-- the details of a file say so of each of its lines
abbrev pub LinesAreDetailed : Naming → Problem → Type 0
LinesAreDetailed naming problem =
    (file : PlanFile) (states : ℕ → State) (details : Details) → LinesRun naming problem file states → AreDetails naming problem file details
    → (line : DecompositionLine) → IsIn line file.decompositions → IsDetailed naming problem file states details line
