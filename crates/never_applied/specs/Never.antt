-- The methods and actions that no plan uses.
use Rattle.std.specs.Prelude.{◌≡◌, ℕ, ◌+◌, length, IsSome, Some, slice_get}
use Rattle.std.specs.List.{All}
use Rattle.htn_model.specs.Exhaustion.{IsUnsolvable}
use Rattle.htn_model.specs.Grounding.{problem_of}
use Rattle.htn_model.specs.Instance.{Instance}
use Rattle.htn_model.specs.Instances.{methods_of}
use Rattle.htn_model.specs.Task.{Task}
use Rattle.htn_model.specs.Tree.{Node, leaf, step, compound}
use Rattle.never_applied.specs.Solutions.{InSolutions}
use Rattle.never_applied.specs.Used.{AreUsed}
use Rattle.never_applied.specs.declared.answer.Findings.{Findings}

-- a node is decomposed by an instance of the method
abbrev pub Applies : Task → ℕ → Node → Type 0
Applies t method (leaf g) = ⊥
Applies t method (step literals) = ⊥
Applies t method (compound g number nodes) = (i : Instance) × (slice_get (methods_of t g) number ≡ Some i) × (i.method ≡ Some method)

-- no node of any solution is the action
abbrev pub IsNeverApplied : Task → ℕ → Type 0
IsNeverApplied t method = InSolutions (problem_of t) (λ n. Applies t method n → ⊥)

-- a node is the action: actions are numbered after the compound tasks
abbrev pub Performs : Task → ℕ → Node → Type 0
Performs t action (leaf g) = g.name ≡ length t.tasks + action
Performs t action (step literals) = ⊥
Performs t action (compound g number nodes) = ⊥

-- no node of any solution is
abbrev pub IsNeverPerformed : Task → ℕ → Type 0
IsNeverPerformed t action = InSolutions (problem_of t) (λ n. Performs t action n → ⊥)

-- no solution of any size uses these methods and actions; each solution uses usable tasks, actions and methods only;
-- and where a reason is given, there is no solution
pub record AreFindings (t : Task) (r : Findings) : Type 0 where
  pub methods : All (λ x. IsNeverApplied t x.place) r.methods.items
  pub actions : All (λ x. IsNeverPerformed t x.place) r.actions.items
  pub usable : AreUsed t r.usable
  pub no_plan : IsSome r.no_plan → IsUnsolvable (problem_of t)
