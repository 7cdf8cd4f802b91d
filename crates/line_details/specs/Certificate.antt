-- A certificate of details: for each line the gaps between which it is placed, and for each node of its instance's
-- network the gaps between which that is placed and the child that stands there. It is checked line by line.
use Rattle.std.specs.Prelude.{◌≡◌, ◌↔◌, ℕ, ◌≤◌, ◌<◌, List, [], ◌∷◌, length, Some, true, slice_get}
use Rattle.htn_model.specs.State.{State}
use Rattle.htn_model.specs.Literal.{Literal, holds}
use Rattle.htn_model.specs.Problem.{GroundTask, Problem, Network, Child, precondition, action, task}
use Rattle.htn_model.specs.PlanFile.{ActionLine, DecompositionLine, PlanFile, Naming, IsRearrangementOf, IsIn, IsForest}
use Rattle.htn_model.specs.Fits.{PlanTrees, subtask_positions, AreSpans, ForestFits}
use Rattle.htn_model.specs.Shown.{ShowTrees, LinesRun}
use Rattle.line_details.specs.Details.{Details, AreDetails}

-- the gaps between which everything below a line is placed, at which position of its instance's network each child
-- stands, as listed, and the gaps between which each position is placed
pub record Spans : Type 0 where
  pub from : ℕ
  pub to : ℕ
  pub positions : List ℕ
  pub start : ℕ → ℕ
  pub finish : ℕ → ℕ

-- those of the root line, and of each decomposition line, by its id
pub record AllSpans : Type 0 where
  pub root : Spans
  pub line : ℕ → Spans

module _ (naming : Naming) (problem : Problem) (file : PlanFile) (states : ℕ → State) (details : Details) (all_spans : AllSpans) where
  -- the line with this id is of that child of a network, and is placed between the gaps
  abbrev pub IsPlaced : Child → ℕ → ℕ → ℕ → Type 0
  IsPlaced (precondition literals) id g h = ⊥
  IsPlaced (action t) id g h =
      (i : ℕ) × (line : ActionLine) × (slice_get file.actions i ≡ Some line) × (line.id ≡ id) × (naming.named line.name line.arguments ≡ Some t) × (g ≤ i) × (i < h)
  IsPlaced (task t) id g h =
      (line : DecompositionLine) × IsIn line file.decompositions × (line.id ≡ id) × (naming.named line.task line.arguments ≡ Some t)
      × (g ≤ (all_spans.line id).from) × ((all_spans.line id).to ≤ h)

  -- each of the lines is placed at its position
  abbrev pub ArePlaced : List Child → Spans → List ℕ → List ℕ → Type 0
  ArePlaced children s positions [] = positions ≡ []
  ArePlaced children s [] (id ∷ ids) = ⊥
  ArePlaced children s (a ∷ positions) (id ∷ ids) =
      ((child : Child) × (slice_get children a ≡ Some child) × IsPlaced child id (s.start a) (s.finish a)) × ArePlaced children s positions ids

  -- the lines are placed as the network's subtasks, each once, in its order, and its steps in gaps in which they hold
  pub record HasRoomBy (network : Network) (ids : List ℕ) (s : Spans) : Type 0 where
    pub each_once : IsRearrangementOf s.positions (subtask_positions 0 network.children)
    pub children : ArePlaced network.children s s.positions ids
    pub spans : AreSpans network.order s.start s.finish s.from s.to
    pub steps : (a : ℕ) (literals : List Literal) → slice_get network.children a ≡ Some (precondition literals)
        → (s.start a ≡ s.finish a) × (holds (states (s.start a)) literals ≡ true)

  -- the children of a decomposition line are placed as its instance, with the steps in their gaps
  pub record LineHasRoomBy (line : DecompositionLine) : Type 0 where
    pub t : GroundTask
    pub network : Network
    pub named : naming.named line.task line.arguments ≡ Some t
    pub is_instance : slice_get (problem.methods_of t) (details.number line.id) ≡ Some network
    pub method : line.method ≡ naming.method_name t (details.number line.id)
    pub children : HasRoomBy network line.children (all_spans.line line.id)
    pub gaps : (a : ℕ) (literals : List Literal) → slice_get network.children a ≡ Some (precondition literals) → details.gap line.id a ≡ (all_spans.line line.id).start a

  -- so are those of each decomposition line, and the roots in the whole plan
  pub record IsCertificate : Type 0 where
    pub network : Network
    pub is_initial : slice_get problem.initials details.initial ≡ Some network
    pub whole : all_spans.root.to ≤ length file.actions
    pub roots : HasRoomBy network file.roots all_spans.root
    pub lines : (line : DecompositionLine) → IsIn line file.decompositions → LineHasRoomBy line

-- ## Laws

-- a forest of lines that run has exactly the details that have a certificate
abbrev pub CertificatesDecide : Naming → Problem → Type 0
CertificatesDecide naming problem =
    (file : PlanFile) (states : ℕ → State) (details : Details) → IsForest file → LinesRun naming problem file states
    → ((all_spans : AllSpans) × IsCertificate naming problem file states details all_spans) ↔ AreDetails naming problem file details

-- where there is one the lines have room
abbrev pub CertificatesFit : Naming → Problem → Type 0
CertificatesFit naming problem =
    (file : PlanFile) (states : ℕ → State) (plans : PlanTrees) (details : Details) (all_spans : AllSpans) → IsForest file → LinesRun naming problem file states
    → ShowTrees naming file file.roots plans → IsCertificate naming problem file states details all_spans → ForestFits naming problem states plans (length file.actions)
