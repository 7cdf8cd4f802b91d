-- Small ground problems written as tables, with lists of atoms for states: what examples are stated on.
use Rattle.std.specs.Prelude.{ℕ, List, [], ◌∷◌, Option, Some, None, cond, nat_eq, option_map}
use Rattle.std.specs.List.{list_any}
use Rattle.std.specs.Option.{unwrap_or}
use Rattle.htn_model.specs.Atom.{Atom}
use Rattle.htn_model.specs.State.{set_of}
use Rattle.htn_model.specs.Literal.{Literal, Action}
use Rattle.htn_model.specs.Problem.{GroundTask, ground_task_eq, Network, Problem}

-- an action with lists of atoms for its effects
pub record SketchAction : Type 0 where
  pub precondition : List Literal
  pub deletes : List Atom
  pub adds : List Atom

-- a ground problem as lists
pub record Sketch : Type 0 where
  pub initials : List Network
  -- each compound task with its instances, by their numbers
  pub methods : List (GroundTask × List Network)
  pub actions : List (GroundTask × SketchAction)
  -- the predicates that an effect names
  pub changed : List ℕ
  pub initial_atoms : List Atom
  pub goal : List Literal

-- what a task stands beside in a table
abbrev pub look_up : {X : Type 0} → List (GroundTask × X) → GroundTask → Option X
look_up [] g = None
look_up (e ∷ es) g = cond (ground_task_eq e.0 g) (Some e.1) (look_up es g)

-- the action of a sketch
abbrev pub drawn : SketchAction → Action
drawn a = record { precondition = a.precondition; deletes = set_of a.deletes; adds = set_of a.adds }

-- the problem that the tables show
abbrev pub sketched : Sketch → Problem
sketched k = record {
  initials = k.initials;
  methods_of = λ t. unwrap_or (look_up k.methods t) [];
  action_of = λ g. option_map drawn (look_up k.actions g);
  is_changed = λ p. list_any (nat_eq p) k.changed;
  initial_state = set_of k.initial_atoms;
  goal = k.goal;
}
