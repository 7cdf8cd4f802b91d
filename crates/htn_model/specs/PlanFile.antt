-- A plan file as data, and when its lines are a forest.
use Rattle.std.specs.Prelude.{◌≡◌, ℕ, List, [], ◌∷◌, ◌++◌, Option, ◌⊎◌, ⊤}
use Rattle.htn_model.specs.Problem.{GroundTask}

-- the bytes of one word
abbrev pub Word : Type 0
Word = List ℕ

-- an action line: its number, and the action with its arguments by name
pub record ActionLine : Type 0 where
  pub id : ℕ
  pub name : Word
  pub arguments : List Word

-- a decomposition line: its number, task, arguments and method by name, and the numbers of its children
pub record DecompositionLine : Type 0 where
  pub id : ℕ
  pub task : Word
  pub arguments : List Word
  pub method : Word
  pub children : List ℕ

-- a plan file: its lines of each kind, in their order, and the numbers of the root line
pub record PlanFile : Type 0 where
  pub actions : List ActionLine
  pub roots : List ℕ
  pub decompositions : List DecompositionLine

-- the names of a problem: the actions, tasks and methods that the words of a plan file name, and the words for them
pub record Naming : Type 0 where
  pub named : Word → List Word → Option GroundTask
  pub task_name : GroundTask → Word
  pub argument_names : GroundTask → List Word
  -- the method's name, of the instance with this number of a ground task
  pub method_name : GroundTask → ℕ → Word

-- ## Lists

-- two lists have the same members, each as often
abbrev pub IsRearrangementOf : {X : Type 0} → List X → List X → Type 0
IsRearrangementOf [] ys = ys ≡ []
IsRearrangementOf {X = X} (x ∷ xs) ys = (left : List X) × (right : List X) × (ys ≡ left ++ x ∷ right) × IsRearrangementOf xs (left ++ right)

-- a value is in a list
abbrev pub IsIn : {X : Type 0} → X → List X → Type 0
IsIn x [] = ⊥
IsIn x (y ∷ ys) = (x ≡ y) ⊎ IsIn x ys

-- no member occurs twice
abbrev pub IsWithoutRepeats : {X : Type 0} → List X → Type 0
IsWithoutRepeats [] = ⊤
IsWithoutRepeats (x ∷ xs) = (IsIn x xs → ⊥) × IsWithoutRepeats xs

-- ## A forest

-- the numbers of action lines
abbrev pub action_ids : List ActionLine → List ℕ
action_ids [] = []
action_ids (line ∷ lines) = line.id ∷ action_ids lines

-- the numbers of decomposition lines
abbrev pub decomposition_ids : List DecompositionLine → List ℕ
decomposition_ids [] = []
decomposition_ids (line ∷ lines) = line.id ∷ decomposition_ids lines

-- the numbers that decomposition lines list as children
abbrev pub all_children : List DecompositionLine → List ℕ
all_children [] = []
all_children (line ∷ lines) = line.children ++ all_children lines

-- the numbers of all lines
abbrev pub defined_ids : PlanFile → List ℕ
defined_ids file = action_ids file.actions ++ decomposition_ids file.decompositions

-- the numbers that the root line and the decomposition lines list
abbrev pub listed_ids : PlanFile → List ℕ
listed_ids file = file.roots ++ all_children file.decompositions

-- a number is listed by the root line, or by a decomposition line that is reached
pub data IsReached (file : PlanFile) : ℕ → Type 0 where
  from_root : (id : ℕ) → IsIn id file.roots → IsReached file id
  from_parent : (id : ℕ) (line : DecompositionLine) → IsIn line file.decompositions → IsReached file line.id → IsIn id line.children → IsReached file id

-- each id is defined once, listed once, and reached from the roots
pub record IsForest (file : PlanFile) : Type 0 where
  pub defined_once : IsWithoutRepeats (defined_ids file)
  pub listed_once : IsRearrangementOf (defined_ids file) (listed_ids file)
  pub reached : (id : ℕ) → IsIn id (defined_ids file) → IsReached file id
