-- The tasks, actions and methods that plans may use.
use Rattle.std.specs.Prelude.{◌≡◌, ℕ, Bool, true, ◌&&◌, Option, Some, None, nat_eq, slice_get, ⊤}
use Rattle.std.specs.List.{list_any}
use Rattle.htn_model.specs.Grounding.{problem_of}
use Rattle.htn_model.specs.Instance.{Instance}
use Rattle.htn_model.specs.Instances.{methods_of}
use Rattle.htn_model.specs.Problem.{Child, precondition, action, task, ground_task_eq}
use Rattle.htn_model.specs.Task.{Task}
use Rattle.htn_model.specs.Tree.{Node, leaf, step, compound, root}
use Rattle.never_applied.specs.Solutions.{InSolutions}
use Rattle.never_applied.specs.declared.usable.Usable.{Usable}

-- whether a node may be used; for an action the number of its schema has to be listed too
abbrev pub has_node : Usable → Child → Bool
has_node u (precondition literals) = true
has_node u (action g) = list_any (ground_task_eq g) u.actions.keys && list_any (nat_eq g.name) u.names.keys
has_node u (task g) = list_any (ground_task_eq g) u.tasks.keys

-- whether the method of an instance may be used, if it has one
abbrev pub has_method : Usable → Option ℕ → Bool
has_method u None = true
has_method u (Some m) = list_any (nat_eq m) u.methods.keys

-- the method of a node's instance may be used
abbrev pub HasMethod : Task → Usable → Node → Type 0
HasMethod t u (leaf g) = ⊤
HasMethod t u (step literals) = ⊤
HasMethod t u (compound g number nodes) = (i : Instance) → slice_get (methods_of t g) number ≡ Some i → has_method u i.method ≡ true

-- each node of each solution may be used, and so may its method
pub record AreUsed (t : Task) (u : Usable) : Type 0 where
  pub nodes : InSolutions (problem_of t) (λ n. has_node u (root n) ≡ true)
  pub methods : InSolutions (problem_of t) (HasMethod t u)
