-- What the values that are given leave of a schema's conditions.
use Rattle.std.specs.Prelude.{◌≡◌, ◌<◌, ℕ, Bool, true, false, not, ◌&&◌, ◌||◌, ◌==◌, List, map, get_or, Option, Some, None, is_some}
use Rattle.std.specs.Option.{unwrap_or}
use Rattle.std.specs.Bool.{beq}
use Rattle.std.specs.List.{list_all}
use Rattle.htn_model.specs.Schema.{Term, parameter, object, EqualitySchema}
use Rattle.htn_model.specs.Task.{Task, has_type}
use Rattle.htn_model.specs.Instances.{Conditions, is_instance}
use Rattle.plan_lines.specs.Given.{Extends, object_of}

-- whether the equality holds, so far as both of its terms have objects
abbrev pub equals_so_far : Bool → Option ℕ → Option ℕ → Bool
equals_so_far positive None y = true
equals_so_far positive (Some x) None = true
equals_so_far positive (Some x) (Some y) = beq positive (x == y)

-- the equality holds, or a side of it has no value yet
abbrev pub equality_so_far : List (Option ℕ) → EqualitySchema → Bool
equality_so_far given e = equals_so_far e.is_positive (object_of given e.left) (object_of given e.right)

-- whether the object has the type, if there is one
abbrev pub has_type_so_far : Task → ℕ → Option ℕ → Bool
has_type_so_far t type None = true
has_type_so_far t type (Some o) = has_type t type o

-- the argument of the place has its type, or has no value yet
abbrev pub place_so_far : Task → List (Option ℕ) → Term × ℕ → Bool
place_so_far t given p = has_type_so_far t p.1 (object_of given p.0)

-- whether no condition fails at the values that are given
abbrev pub meets_so_far : Task → Conditions → List (Option ℕ) → Bool
meets_so_far t c given = list_all (equality_so_far given) c.equalities && list_all (place_so_far t given) c.places

-- the values of an instance, with those that are given
abbrev pub IsInstanceWith : Task → Conditions → List (Option ℕ) → List ℕ → Type 0
IsInstanceWith t c given values = Extends values given × (is_instance t c values ≡ true)

-- some instance has the values that are given
abbrev pub HasInstanceWith : Task → Conditions → List (Option ℕ) → Type 0
HasInstanceWith t c given = (values : List ℕ) × IsInstanceWith t c given values

-- each of the first `count` parameters has a value
abbrev pub IsFilled : List (Option ℕ) → ℕ → Type 0
IsFilled given count = (p : ℕ) → p < count → get_or given p (Some 0) ≡ None → ⊥

-- the values, where all are given
abbrev pub values_of : List (Option ℕ) → List ℕ
values_of given = map (λ value. unwrap_or value 0) given

-- ## Parameters that depend on no open one

-- the term is the parameter at this place
abbrev pub is_parameter : Term → ℕ → Bool
is_parameter (parameter p) place = p == place
is_parameter (object o) place = false

-- whether the equality has the parameter at the place beside one that has no value
abbrev pub ties : List (Option ℕ) → ℕ → EqualitySchema → Bool
ties given place e =
    (is_parameter e.left place && not (is_some (object_of given e.right))) || (is_parameter e.right place && not (is_some (object_of given e.left)))
