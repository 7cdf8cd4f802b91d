-- Nodes that plans may have, what is checked of them, and what is gathered by them.
use Rattle.std.specs.Prelude.{◌≡◌, Bool, true, false, not, cond, ◌&&◌, Some}
use Rattle.std.specs.List.{All, list_all}
use Rattle.htn_model.specs.Grounding.{problem_of}
use Rattle.htn_model.specs.Instance.{Instance}
use Rattle.htn_model.specs.Instances.{initials}
use Rattle.htn_model.specs.Literal.{Action}
use Rattle.htn_model.specs.Problem.{Child, precondition, action, task, GroundTask}
use Rattle.htn_model.specs.State.{contains}
use Rattle.htn_model.specs.Task.{Task}
use Rattle.htn_model.specs.Tree.{root, Solution, IsSolution}
use Rattle.htn_ground.specs.Distinct.{distinct, live_methods}
use Rattle.task_graph.specs.Graph.{IsGrown}
use Rattle.heuristics.specs.Facts as relaxed
use Rattle.heuristics.specs.Facts.{are_possible, has_effects, is_within}
use Rattle.heuristics.specs.ReachTables.{is_among}
use Rattle.never_applied.specs.Solutions.{InSolutions}
use Rattle.never_applied.specs.Used.{has_method, has_node}
use Rattle.never_applied.specs.declared.facts.Facts.{Facts}
use Rattle.never_applied.specs.declared.fine.Fine.{Fine}
use Rattle.never_applied.specs.declared.usable.Usable.{Usable}

-- the facts by two sets of atoms
abbrev pub facts_of : Facts → relaxed.Facts
facts_of f = record { may_hold = contains f.possible; lasting = f.lasting }

-- ## Nodes that a plan may have

-- by what is known: a step with literals that may all be true, and the actions and tasks of the sets
abbrev pub is_known_fine : Fine → Child → Bool
is_known_fine f (precondition literals) = are_possible (facts_of f.facts) literals
is_known_fine f (action g) = is_among f.actions.keys g
is_known_fine f (task g) = is_among f.tasks.keys g

-- an action that is never carried out, whatever else there is
abbrev pub is_barred_node : Fine → Child → Bool
is_barred_node f (precondition literals) = false
is_barred_node f (action g) = is_among f.barred.keys g
is_barred_node f (task g) = false

-- where nothing is known yet each node is fine but for such actions
abbrev pub is_fine : Fine → Child → Bool
is_fine f x = cond f.is_open (not (is_barred_node f x)) (is_known_fine f x)

-- each node of each solution is fine
abbrev pub AreNodesFine : Task → Fine → Type 0
AreNodesFine t f = InSolutions (problem_of t) (λ n. is_fine f (root n) ≡ true)

-- each node of each solution is fine, and if there is a solution, the goal is possible by the facts
pub record AreFine (t : Task) (f : Fine) : Type 0 where
  pub nodes : AreNodesFine t f
  pub goal : (s : Solution) → IsSolution (problem_of t) s → are_possible (facts_of f.facts) (problem_of t).goal ≡ true

-- ## What a plan may use

-- whether an instance's method and nodes may be used
abbrev pub has_instance : Usable → Instance → Bool
has_instance u i = has_method u i.method && list_all (has_node u) i.network.children

-- ## What is checked

-- an action that may be carried out is fine, and its effects are among the facts
abbrev pub IsActionRight : Task → Fine → GroundTask → Type 0
IsActionRight t f g = (a : Action) → (problem_of t).action_of g ≡ Some a → are_possible (facts_of f.facts) a.precondition ≡ true
    → (has_effects (facts_of f.facts) a ≡ true) × (is_among f.actions.keys g ≡ true)

-- a task with a live instance whose nodes are all fine is fine
abbrev pub IsTaskRight : Task → Fine → GroundTask → Type 0
IsTaskRight t f g = All (λ i. list_all (is_fine f) i.network.children ≡ true → is_among f.tasks.keys g ≡ true) (live_methods t g)

-- the nodes that are fine are right by the used ones: the facts allow the initial state and the effects of the actions,
-- and each node that may be fine is
pub record IsRight (t : Task) (u : Usable) (f : Fine) : Type 0 where
  pub known : f.is_open ≡ false
  pub within : is_within (facts_of f.facts) t.initial_atoms ≡ true
  pub actions : All (IsActionRight t f) u.actions.keys
  pub tasks : All (IsTaskRight t f) u.tasks.keys

-- ## What is gathered

-- an instance whose nodes are all fine is used
abbrev pub IsInstanceUsed : Fine → Usable → Instance → Type 0
IsInstanceUsed f u i = list_all (is_fine f) i.network.children ≡ true → has_instance u i ≡ true

-- each live instance of a task whose nodes are all fine is used
abbrev pub IsTaskUsed : Task → Fine → Usable → GroundTask → Type 0
IsTaskUsed t f u g = All (IsInstanceUsed f u) (live_methods t g)

-- the nodes of an initial network whose nodes are all fine are used
abbrev pub IsStartUsed : Fine → Usable → Instance → Type 0
IsStartUsed f u i = list_all (is_fine f) i.network.children ≡ true → list_all (has_node u) i.network.children ≡ true

-- the used tasks, actions and methods are closed under decomposition by instances whose nodes are all fine
pub record IsClosed (t : Task) (f : Fine) (u : Usable) : Type 0 where
  pub starts : All (IsStartUsed f u) (distinct (initials t))
  pub tasks : All (IsTaskUsed t f u) u.tasks.keys

-- more is used, at the end of each list
pub record IsMore (old new : Usable) : Type 0 where
  pub tasks : IsGrown old.tasks.keys new.tasks.keys
  pub actions : IsGrown old.actions.keys new.actions.keys
  pub names : IsGrown old.names.keys new.names.keys
  pub methods : IsGrown old.methods.keys new.methods.keys
