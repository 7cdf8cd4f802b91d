-- Conditions on a part of a slice that begins at a place of the whole.
use Rattle.std.specs.Prelude.{◌≡◌, ℕ, ◌+◌, ◌^◌, ◌<◌, List, length, slice_index_or}

-- P holds of each element and its place in the whole
pub record IsReady {T : Type 0} (P : ℕ → T → Type 0) (first : ℕ) (xs : List T) : Type 0 where
  pub room : first + length xs < 2 ^ 64
  pub each : (k : ℕ) (d : T) → k < length xs → P (first + k) (slice_index_or xs k d)

-- R holds of each element before and after, and its place in the whole
pub record IsChanged {T : Type 0} (R : ℕ → T → T → Type 0) (first : ℕ) (xs ys : List T) : Type 0 where
  pub len : length ys ≡ length xs
  pub each : (k : ℕ) (d : T) → k < length xs → R (first + k) (slice_index_or xs k d) (slice_index_or ys k d)
