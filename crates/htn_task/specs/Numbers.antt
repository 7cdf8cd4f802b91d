-- The numbers of names: their first places among the names of their kind.
use Rattle.std.specs.Prelude.{◌≡◌, ℕ, cond, is_some, List, [], ◌∷◌, ◌++◌, map, position, Option, Vec}
use Rattle.std.specs.Map.{lookup}
use Rattle.std.specs.Str.{bytes_eq}
use Rattle.htn_model.specs.Schema.{Name}

-- the place of the first declaration with this name
abbrev pub number_of : List Name → Name → Option ℕ
number_of names name = position (bytes_eq name) names

-- ## Names with their numbers

-- names, each with a number
abbrev pub Entries : Type 0
Entries = List (Name × ℕ)

-- vectors with numbers as entries
abbrev pub entries_of : {A : Type 0} → List (Vec ℕ A × ℕ) → Entries
entries_of es = map (λ e. (e.0.items, e.1)) es

-- the number of a name, if it has an entry
abbrev pub entry_of : Entries → Name → Option ℕ
entry_of es name = lookup (bytes_eq name) es

-- the entries with a number for one more name, unless it has one
abbrev pub with_number : Entries → Name → ℕ → Entries
with_number es name number = cond (is_some (entry_of es name)) es (es ++ (name, number) ∷ [])

-- each of these names has the number of its first place, and no other name has one
pub record AreNumbersOf (names : List Name) (es : Entries) : Type 0 where
  pub each : (name : Name) → entry_of es name ≡ number_of names name
