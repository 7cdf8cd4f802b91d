-- Sets of numbers as bits in words of 64.
use Rattle.std.specs.Prelude.{ℕ, ◌/◌, ◌%◌, Bool, List, get_or}
use Rattle.htn_order.specs.BitRows.{is_set}

-- whether the bit of a number is set
abbrev pub has : List ℕ → ℕ → Bool
has words x = is_set (get_or words (x / 64) 0) (x % 64)
