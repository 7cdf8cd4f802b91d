-- What is checked of the sets of a relaxed reach.
use Rattle.std.specs.Prelude.{◌≡◌, ℕ, ◌<◌, true, false, ◌||◌, Some, slice_get}
use Rattle.std.specs.List.{All, list_all, list_any}
use Rattle.htn_model.specs.Grounding.{problem_of}
use Rattle.htn_model.specs.Instance.{Instance}
use Rattle.htn_model.specs.Instances.{initials}
use Rattle.htn_model.specs.Literal.{Action}
use Rattle.htn_model.specs.Problem.{GroundTask}
use Rattle.htn_model.specs.Task.{Task}
use Rattle.htn_ground.specs.Distinct.{distinct}
use Rattle.task_graph.specs.Graph.{IsGraph, is_task_listed, task_at}
use Rattle.task_graph.specs.declared.decomposition.Decomposition.{Decomposition}
use Rattle.task_graph.specs.declared.graph.TaskGraph.{TaskGraph}
use Rattle.heuristics.specs.Facts.{are_possible, has_effects, is_within}
use Rattle.heuristics.specs.Reach.{bars, passes}
use Rattle.heuristics.specs.ReachTables.{facts_of, is_among, knows, reach_of}
use Rattle.heuristics.specs.declared.reach.RelaxedReach.{RelaxedReach}

-- an action's effects are among the facts, unless it never ends
abbrev pub AreEffectsRight : Task → RelaxedReach → GroundTask → Type 0
AreEffectsRight t r g =
    (a : Action) → (problem_of t).action_of g ≡ Some a → is_among r.actions.blocked.keys g ≡ false → has_effects (facts_of r.facts) a ≡ true

-- an action needs a literal that never holds
abbrev pub IsBlockedRight : Task → RelaxedReach → GroundTask → Type 0
IsBlockedRight t r g = (a : Action) → (problem_of t).action_of g ≡ Some a → are_possible (facts_of r.facts) a.precondition ≡ false

-- each decomposition bears out what is marked of its task
abbrev pub AreInstancesRight : RelaxedReach → TaskGraph → Type 0
AreInstancesRight r g =
    (j : ℕ) (d : Decomposition) (h : GroundTask) → slice_get g.decompositions.items j ≡ Some d → task_at g d.task.index ≡ Some h → passes (reach_of r) h d.children ≡ true

-- an initial network has a barred node, or all its nodes are known
abbrev pub IsStartKnown : RelaxedReach → Instance → Type 0
IsStartKnown r i = (list_any (bars (reach_of r)) i.network.children || list_all (knows r) i.network.children) ≡ true

-- what is marked of compound tasks is right
pub record AreTasksRight (r : RelaxedReach) (g : TaskGraph) : Type 0 where
  pub known : All (λ h. is_task_listed g h ≡ true) r.tasks.known.keys
  pub blocked : All (λ h. is_task_listed g h ≡ true) r.tasks.blocked.keys
  pub instances : AreInstancesRight r g

-- all that is checked; of actions by what these are ground to in the graph
pub record IsChecked (t : Task) (r : RelaxedReach) (g : TaskGraph) : Type 0 where
  pub first : is_within (facts_of r.facts) t.initial_atoms ≡ true
  pub starts : All (IsStartKnown r) (distinct (initials t))
  pub tasks : AreTasksRight r g
  pub effects : IsGraph t g → All (AreEffectsRight t r) r.actions.known.keys
  pub blocked : IsGraph t g → All (IsBlockedRight t r) r.actions.blocked.keys
