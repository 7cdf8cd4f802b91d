-- The ground problem of a task.
use Rattle.std.specs.Prelude.{ℕ, Bool, nat_eq, [], ◌++◌, map}
use Rattle.std.specs.List.{list_any}
use Rattle.htn_model.specs.Problem.{Problem, IsGrounded}
use Rattle.htn_model.specs.Task.{Task, IsWellTyped}
use Rattle.htn_model.specs.Instances.{initials, methods_of, action_of, literals_of}

-- whether an effect of an action names the predicate
abbrev pub is_changed : Task → ℕ → Bool
is_changed t predicate = list_any (λ a. list_any (λ e. nat_eq e.predicate predicate) (a.deletes ++ a.adds)) t.actions

-- the networks of the instances of a task's schemas, its actions, initial state and goal
abbrev pub problem_of : Task → Problem
problem_of t = record {
  initials = map (λ i. i.network) (initials t);
  methods_of = λ g. map (λ i. i.network) (methods_of t g);
  action_of = action_of t;
  is_changed = is_changed t;
  initial_state = t.initial_atoms;
  goal = literals_of t [] t.goal;
}

-- the ground problem of a well-typed task is one on which the theory stands
abbrev pub TasksAreGrounded : Type 0
TasksAreGrounded = (t : Task) → IsWellTyped t → IsGrounded (problem_of t)
