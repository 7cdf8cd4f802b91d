-- What is found on the way to what no plan uses.
use Rattle.std.specs.Prelude.{◌≡◌, ℕ, ◌+◌, false, nat_eq, length, List}
use Rattle.std.specs.List.{All, list_any}
use Rattle.htn_model.specs.Task.{Task}
use Rattle.never_applied.specs.Fine.{AreFine}
use Rattle.never_applied.specs.Used.{AreUsed}
use Rattle.never_applied.specs.declared.answer.Unused.{Unused}
use Rattle.never_applied.specs.declared.stages.Stage.{Stage}
use Rattle.never_applied.specs.declared.usable.Usable.{Usable}

-- a method isn't among those that are used
abbrev pub IsMethodUnused : Usable → ℕ → Type 0
IsMethodUnused u place = list_any (nat_eq place) u.methods.keys ≡ false

-- an action isn't
abbrev pub IsActionUnused : Task → Usable → ℕ → Type 0
IsActionUnused t u place = list_any (nat_eq (length t.tasks + place)) u.names.keys ≡ false

-- none of some methods and actions are
pub record AreUnused (t : Task) (u : Usable) (applied performed : List Unused) : Type 0 where
  pub methods : All (λ x. IsMethodUnused u x.place) applied
  pub actions : All (λ x. IsActionUnused t u x.place) performed

-- the nodes that a plan may have are, and what it may use
pub record IsStage (t : Task) (s : Stage) : Type 0 where
  pub fine : AreFine t s.fine
  pub usable : AreUsed t s.usable
