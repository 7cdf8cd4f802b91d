-- Values that are given at some parameters of a schema.
use Rattle.std.specs.Prelude.{◌≡◌, ◌↔◌, ℕ, Bool, true, false, List, get_or, length, Option, Some}
use Rattle.htn_model.specs.Schema.{Term, parameter, object}

-- the object that a term stands for, if it has one. What is no parameter stands for object 0, as in every instance
abbrev pub object_of : List (Option ℕ) → Term → Option ℕ
object_of given (parameter p) = get_or given p (Some 0)
object_of given (object o) = Some o

-- values with those that are given
pub record Extends (values : List ℕ) (given : List (Option ℕ)) : Type 0 where
  pub long : length values ≡ length given
  pub has : (p o : ℕ) → get_or given p (Some 0) ≡ Some o → get_or values p 0 ≡ o

-- of the values with those given, just those that have the property have those given now; or none has it
abbrev pub Narrows : (List ℕ → Type 0) → List (Option ℕ) → List (Option ℕ) → Bool → Type 0
Narrows Has old new true = (values : List ℕ) → Extends values new ↔ (Extends values old × Has values)
Narrows Has old new false = (values : List ℕ) → Extends values old → Has values → ⊥
