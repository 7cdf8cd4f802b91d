-- The first in a list that has a property.
use Rattle.std.specs.Prelude.{◌≡◌, ℕ, ◌<◌, List, length, Option, Some, None, slice_get}

-- none at a place below the count has the property
abbrev pub HasNoneBefore : {X : Type 0} → (X → Type 0) → List X → ℕ → Type 0
HasNoneBefore {X} Has xs count = (k : ℕ) (x : X) → k < count → slice_get xs k ≡ Some x → Has x → ⊥

-- none in the list has the property
abbrev pub HasNone : {X : Type 0} → (X → Type 0) → List X → Type 0
HasNone Has xs = HasNoneBefore Has xs (length xs)

-- the first that has the property stands at the place
pub record IsFirst {X : Type 0} (Has : X → Type 0) (xs : List X) (place : ℕ) : Type 0 where
  pub one : X
  pub stands : slice_get xs place ≡ Some one
  pub has : Has one
  pub before : HasNoneBefore Has xs place

-- the place of the first that has the property; none where none has it
abbrev pub IsFirstOrNone : {X : Type 0} → (X → Type 0) → List X → Option ℕ → Type 0
IsFirstOrNone Has xs None = HasNone Has xs
IsFirstOrNone Has xs (Some place) = IsFirst Has xs place
