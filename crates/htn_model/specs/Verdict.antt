-- The verdicts: the first condition that holds.
use Rattle.std.specs.Prelude.{◌≡◌, ℕ, List, [], ◌∷◌, ◌++◌, Option, Some, None, Bool, true, false, option_and_then, slice_get}
use Rattle.std.specs.List.{AllByRecursion}
use Rattle.htn_model.specs.State.{State}
use Rattle.htn_model.specs.Literal.{Action, holds}
use Rattle.htn_model.specs.Problem.{GroundTask, Problem, Network, Child, precondition, action, task, perform_action}
use Rattle.htn_model.specs.PlanFile.{ActionLine, DecompositionLine, PlanFile, Naming, IsRearrangementOf, IsIn, IsForest}
use Rattle.htn_model.specs.Shadow.{IsAccepted}

-- a line of a plan file
pub data Line : Type 0 where
  action_line : ActionLine → Line
  decomposition_line : DecompositionLine → Line
  root_line : List ℕ → Line

-- action lines as lines
abbrev pub action_lines : List ActionLine → List Line
action_lines [] = []
action_lines (line ∷ lines) = action_line line ∷ action_lines lines

-- decomposition lines as lines
abbrev pub decomposition_lines : List DecompositionLine → List Line
decomposition_lines [] = []
decomposition_lines (line ∷ lines) = decomposition_line line ∷ decomposition_lines lines

-- the lines of a file in the order in which a faulty one is looked for
abbrev pub lines_of : PlanFile → List Line
lines_of file = action_lines file.actions ++ decomposition_lines file.decompositions ++ root_line file.roots ∷ []

-- the line with this id, of either kind, has this task
pub data Names (naming : Naming) (file : PlanFile) : ℕ → GroundTask → Type 0 where
  an_action : (line : ActionLine) (g : GroundTask) → IsIn line file.actions → naming.named line.name line.arguments ≡ Some g → Names naming file line.id g
  a_task : (line : DecompositionLine) (t : GroundTask) → IsIn line file.decompositions → naming.named line.task line.arguments ≡ Some t → Names naming file line.id t

-- the actions and tasks of a network, without its preconditions
abbrev pub subtasks : List Child → List GroundTask
subtasks [] = []
subtasks (precondition literals ∷ children) = subtasks children
subtasks (action g ∷ children) = g ∷ subtasks children
subtasks (task t ∷ children) = t ∷ subtasks children

-- the lines of these numbers name these tasks, one by one
abbrev pub AreNamed : Naming → PlanFile → List ℕ → List GroundTask → Type 0
AreNamed naming file [] tasks = tasks ≡ []
AreNamed naming file (id ∷ ids) [] = ⊥
AreNamed naming file (id ∷ ids) (t ∷ tasks) = Names naming file id t × AreNamed naming file ids tasks

-- the tasks of the lines with these ids are a rearrangement of the network's subtasks
abbrev pub AreSubtasks : Naming → PlanFile → List ℕ → Network → Type 0
AreSubtasks naming file ids network = (arranged : List ℕ) × IsRearrangementOf ids arranged × AreNamed naming file arranged (subtasks network.children)

-- an action line names an action that there is, and any other line lists the subtasks of an instance that it may name
abbrev pub HasInstance : Naming → Problem → PlanFile → Line → Type 0
HasInstance naming problem file (action_line line) =
    (g : GroundTask) × (a : Action) × (naming.named line.name line.arguments ≡ Some g) × (problem.action_of g ≡ Some a)
HasInstance naming problem file (decomposition_line line) =
    (t : GroundTask) × (number : ℕ) × (network : Network) × (naming.named line.task line.arguments ≡ Some t) × (slice_get (problem.methods_of t) number ≡ Some network)
    × (line.method ≡ naming.method_name t number) × AreSubtasks naming file line.children network
HasInstance naming problem file (root_line ids) =
    (number : ℕ) × (network : Network) × (slice_get problem.initials number ≡ Some network) × AreSubtasks naming file ids network

-- the state after an action line, if it names an action that can be carried out
abbrev pub perform_line : Naming → Problem → State → ActionLine → Option State
perform_line naming problem state line = perform_action state (option_and_then problem.action_of (naming.named line.name line.arguments))

-- the state after the action lines, where each one's literals hold when it comes
abbrev pub run_lines : Naming → Problem → State → List ActionLine → Option State
run_lines naming problem state [] = Some state
run_lines naming problem state (line ∷ lines) = option_and_then (λ next. run_lines naming problem next lines) (perform_line naming problem state line)

-- the number of a line in a verdict: its id, or the root line
abbrev pub name_of : Line → Option ℕ
name_of (action_line line) = Some line.id
name_of (decomposition_line line) = Some line.id
name_of (root_line ids) = None

-- what is wrong with a plan file, or that nothing is
pub data Verdict : Type 0 where
  structure : Verdict
  no_instance : Option ℕ → Verdict
  not_executable : ℕ → Verdict
  goal_fails : Verdict
  no_arrangement : Verdict
  valid : Verdict

module _ (naming : Naming) (problem : Problem) (file : PlanFile) where
  -- a line of the file has an instance
  abbrev pub Has : Line → Type 0
  Has = HasInstance naming problem file

  -- the first line without an instance is the one of that number, or the root line
  pub record IsFirstFaulty (name : Option ℕ) : Type 0 where
    pub before : List Line
    pub line : Line
    pub others : List Line
    pub lines : lines_of file ≡ before ++ line ∷ others
    pub fine : AllByRecursion Has before
    pub faulty : Has line → ⊥
    pub name_is : name ≡ name_of line

  -- each line of the file has an instance
  abbrev pub AllHave : Type 0
  AllHave = AllByRecursion Has (lines_of file)

  -- the first action that can't be carried out is that of this number
  pub record IsFirstFailing (id : ℕ) : Type 0 where
    pub before : List ActionLine
    pub line : ActionLine
    pub others : List ActionLine
    pub lines : file.actions ≡ before ++ line ∷ others
    pub state : State
    pub reaches : run_lines naming problem problem.initial_state before ≡ Some state
    pub fails : perform_line naming problem state line ≡ None
    pub id_is : id ≡ line.id

  -- the run ends in a state in which the goal holds, or doesn't
  abbrev pub Ends : Bool → Type 0
  Ends goal_holds = (state : State) × (run_lines naming problem problem.initial_state file.actions ≡ Some state) × (holds state problem.goal ≡ goal_holds)

  -- the first that holds
  abbrev pub IsVerdict : Verdict → Type 0
  IsVerdict structure = IsForest file → ⊥
  IsVerdict (no_instance name) = IsForest file × IsFirstFaulty name
  IsVerdict (not_executable id) = IsForest file × AllHave × IsFirstFailing id
  IsVerdict goal_fails = IsForest file × AllHave × Ends false
  IsVerdict no_arrangement = IsForest file × AllHave × Ends true × (IsAccepted naming problem file → ⊥)
  IsVerdict valid = IsForest file × AllHave × Ends true × IsAccepted naming problem file

-- a file has no two verdicts
abbrev pub VerdictsAreUnique : Naming → Problem → Type 0
VerdictsAreUnique naming problem = (file : PlanFile) (v w : Verdict) → IsVerdict naming problem file v → IsVerdict naming problem file w → v ≡ w
