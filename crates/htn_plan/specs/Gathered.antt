-- The decomposition lines of nodes in preorder, gathered from the last node to the first.
use Rattle.std.specs.Prelude.{ℕ, suc, ◌-◌, List, [], ◌∷◌, length, take, drop, map, Option, Some, None, unwrap_or}
use Rattle.htn_model.specs.Instance.{Instance}
use Rattle.htn_model.specs.PlanFile.{DecompositionLine, Word}
use Rattle.htn_model.specs.Problem.{GroundTask}
use Rattle.htn_model.specs.Task.{Task}
use Rattle.htn_ground.specs.Naming.{task_name, object_name, method_name, numbered_method_name}
use Rattle.htn_plan.specs.Preorder.{Item, action, step_item, task}

-- the name of the method that decomposes a ground task
abbrev pub MethodNaming : Type 0 → Type 0
MethodNaming Method = GroundTask → Method → Word

-- the name of an instance's method
abbrev pub by_instance : Task → MethodNaming Instance
by_instance t g instance = numbered_method_name t instance.method

-- the name of the method whose instance has the number
abbrev pub by_number : Task → MethodNaming ℕ
by_number t = method_name t

-- the line that says how a ground task was decomposed
abbrev pub line_of : Task → ℕ → GroundTask → Word → List ℕ → DecompositionLine
line_of t id g method children = record {
  id = id;
  task = task_name t g.name;
  arguments = map (object_name t) g.arguments;
  method = method;
  children = children;
}

-- the ids that are there
abbrev pub somes : List (Option ℕ) → List ℕ
somes [] = []
somes (None ∷ ids) = somes ids
somes (Some id ∷ ids) = id ∷ somes ids

-- the ids of the topmost nodes, none for a step, and the lines
pub record Gathered : Type 0 where
  pub ids : List (Option ℕ)
  pub lines : List DecompositionLine

-- no ids and no lines
abbrev pub nothing : Gathered
nothing = record { ids = []; lines = [] }

-- with one more node in front, where ids are below the end
abbrev pub gather : {Method : Type 0} → Task → MethodNaming Method → ℕ → Item Method → Gathered → Gathered
gather t names end (action id) g = record { ids = Some (unwrap_or id end) ∷ g.ids; lines = g.lines }
gather t names end step_item g = record { ids = None ∷ g.ids; lines = g.lines }
gather t names end (task goal method count) g = record {
  ids = Some (end - suc (length g.lines)) ∷ drop count g.ids;
  lines = line_of t (end - suc (length g.lines)) goal (names goal method) (somes (take count g.ids)) ∷ g.lines;
}

-- what is gathered of items from the last one on
abbrev pub gather_all : {Method : Type 0} → Task → MethodNaming Method → ℕ → List (Item Method) → Gathered → Gathered
gather_all t names end [] g = g
gather_all t names end (item ∷ items) g = gather t names end item (gather_all t names end items g)
