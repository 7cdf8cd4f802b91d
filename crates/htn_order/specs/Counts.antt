-- How many positions are before another, and numbers whose digits are the bits in one column of some words.
use Rattle.std.specs.Prelude.{◌≡◌, ℕ, zero, suc, ◌+◌, ◌*◌, ◌^◌, ◌<◌, Bool, cond, List, length, get_or}
use Rattle.std.specs.Int.{bit_at}
use Rattle.htn_model.specs.Problem.{Order, is_before}

-- how many of the numbers below n pass a test
abbrev pub count_below : (ℕ → Bool) → ℕ → ℕ
count_below test zero = 0
count_below test (suc n) = count_below test n + cond (test n) 1 0

-- how many positions are before one
abbrev pub predecessor_count : Order → ℕ → ℕ
predecessor_count order a = count_below (λ b. is_before order b a) (length order)

-- the number in lane j, whose first n digits in base 2, from the lowest on, are the bits j of some words
unfoldable pub lane : List ℕ → ℕ → ℕ → ℕ
lane words j zero = 0
lane words j (suc n) = lane words j n + bit_at (get_or words n 0) j * 2 ^ n

-- each lane has how many of the first n positions are before one of 64 positions, from one on
pub record AreColumnCounts (order : Order) (from n : ℕ) (words : List ℕ) : Type 0 where
  pub wide : length words ≡ 64
  pub counts : (j : ℕ) → j < 64 → lane words j (length words) ≡ count_below (λ b. is_before order b (from + j)) n

-- for each of the first n positions, how many positions are before it
pub record AreCounted (order : Order) (n : ℕ) (counts : List ℕ) : Type 0 where
  pub size : length counts ≡ n
  pub each : (a : ℕ) → a < n → get_or counts a 0 ≡ predecessor_count order a
