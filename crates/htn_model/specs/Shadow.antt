-- When a plan file is the shadow of a solution.
use Rattle.std.specs.Prelude.{◌≡◌, ℕ, suc, List, [], ◌∷◌, ◌++◌, Option, Some, None, ⊤}
use Rattle.htn_model.specs.Problem.{GroundTask, Problem}
use Rattle.htn_model.specs.Tree.{Node, leaf, step, compound, Nodes, no_nodes, node, Place, node_at, Solution, IsSolution}
use Rattle.htn_model.specs.PlanFile.{ActionLine, DecompositionLine, PlanFile, Naming, IsRearrangementOf}

-- the places of the nodes other than steps, of the children of a place from position i on
abbrev pub shown_from : Place → ℕ → Nodes → List Place
shown_from place i no_nodes = []
shown_from place i (node (leaf g) ns) = (place ++ i ∷ []) ∷ shown_from place (suc i) ns
shown_from place i (node (step literals) ns) = shown_from place (suc i) ns
shown_from place i (node (compound t number nodes) ns) = (place ++ i ∷ []) ∷ shown_from place (suc i) ns

abbrev mutual
  -- the places of all compound nodes
  pub compounds : Place → Node → List Place
  compounds place (leaf g) = []
  compounds place (step literals) = []
  compounds place (compound t number nodes) = place ∷ compounds_from place 0 nodes

  -- the places of compound nodes of trees, of which the first is the child with this number
  pub compounds_from : Place → ℕ → Nodes → List Place
  compounds_from place i no_nodes = []
  compounds_from place i (node n ns) = compounds (place ++ i ∷ []) n ++ compounds_from place (suc i) ns

-- the numbers of the nodes at these places
abbrev pub ids_of : (Place → ℕ) → List Place → List ℕ
ids_of id_at [] = []
ids_of id_at (p ∷ ps) = id_at p ∷ ids_of id_at ps

-- a node is the step of a precondition
abbrev pub IsStep : Option Node → Type 0
IsStep None = ⊥
IsStep (Some (leaf g)) = ⊥
IsStep (Some (step literals)) = ⊤
IsStep (Some (compound t number nodes)) = ⊥

-- the lines are, in order, those of the leaves among the places; steps have no line
pub data AreActionLines (naming : Naming) (trees : Nodes) (id_at : Place → ℕ) : List Place → List ActionLine → Type 0 where
  end : AreActionLines naming trees id_at [] []
  action_line : (p : Place) (ps : List Place) (g : GroundTask) (line : ActionLine) (lines : List ActionLine)
      → node_at trees p ≡ Some (leaf g) → line.id ≡ id_at p → naming.named line.name line.arguments ≡ Some g
      → AreActionLines naming trees id_at ps lines → AreActionLines naming trees id_at (p ∷ ps) (line ∷ lines)
  no_line : (p : Place) (ps : List Place) (lines : List ActionLine) → IsStep (node_at trees p)
      → AreActionLines naming trees id_at ps lines → AreActionLines naming trees id_at (p ∷ ps) lines

-- the line of the compound node at the place
pub record IsDecompositionLine (naming : Naming) (trees : Nodes) (id_at : Place → ℕ) (p : Place) (line : DecompositionLine) : Type 0 where
  pub task : GroundTask
  pub number : ℕ
  pub nodes : Nodes
  pub stands : node_at trees p ≡ Some (compound task number nodes)
  pub id : line.id ≡ id_at p
  pub named : naming.named line.task line.arguments ≡ Some task
  pub method : line.method ≡ naming.method_name task number
  pub children : IsRearrangementOf line.children (ids_of id_at (shown_from p 0 nodes))

-- the lines are those of the compound nodes at these places, in some order
abbrev pub AreDecompositionLines : Naming → Nodes → (Place → ℕ) → List Place → List DecompositionLine → Type 0
AreDecompositionLines naming trees id_at [] lines = lines ≡ []
AreDecompositionLines naming trees id_at (p ∷ ps) lines =
    (left : List DecompositionLine) × (line : DecompositionLine) × (right : List DecompositionLine) × (lines ≡ left ++ line ∷ right)
    × IsDecompositionLine naming trees id_at p line × AreDecompositionLines naming trees id_at ps (left ++ right)

-- a node is an action or compound, and so has a line
abbrev pub HasId : Option Node → Type 0
HasId None = ⊥
HasId (Some (leaf g)) = ⊤
HasId (Some (step literals)) = ⊥
HasId (Some (compound t number nodes)) = ⊤

-- the lines of a file are those of the actions and compound nodes of a solution, by numbers that differ
pub record IsShadow (naming : Naming) (file : PlanFile) (s : Solution) : Type 0 where
  pub id_at : Place → ℕ
  pub one_to_one : (p q : Place) → HasId (node_at s.trees p) → HasId (node_at s.trees q) → id_at p ≡ id_at q → p ≡ q
  pub actions : AreActionLines naming s.trees id_at s.linearisation file.actions
  pub roots : IsRearrangementOf file.roots (ids_of id_at (shown_from [] 0 s.trees))
  pub decompositions : AreDecompositionLines naming s.trees id_at (compounds_from [] 0 s.trees) file.decompositions

-- a file is the shadow of a solution
pub record IsAccepted (naming : Naming) (problem : Problem) (file : PlanFile) : Type 0 where
  pub solution : Solution
  pub solves : IsSolution problem solution
  pub shadow : IsShadow naming file solution
