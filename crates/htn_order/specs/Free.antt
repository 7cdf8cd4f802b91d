-- The free positions from a position on.
use Rattle.std.specs.Prelude.{◌≡◌, ℕ, ◌<◌, ◌≤◌, Option, Some, None, true, false, length}
use Rattle.htn_model.specs.Problem.{Order, is_before}
use Rattle.htn_model.specs.Choice.{is_free}

-- no position from that one on is free
abbrev pub HasNoneFree : Order → ℕ → Type 0
HasNoneFree order from = (i : ℕ) → from ≤ i → i < length order → is_free (length order) (is_before order) i ≡ false

-- the position is the first free one from another one on
pub record IsFirstFree (order : Order) (from position : ℕ) : Type 0 where
  pub low : from ≤ position
  pub high : position < length order
  pub free : is_free (length order) (is_before order) position ≡ true
  pub first : (i : ℕ) → from ≤ i → i < position → is_free (length order) (is_before order) i ≡ false

-- the first free position that is not below that one, if there is any
abbrev pub IsNextFree : Order → ℕ → Option ℕ → Type 0
IsNextFree order from None = HasNoneFree order from
IsNextFree order from (Some position) = IsFirstFree order from position
