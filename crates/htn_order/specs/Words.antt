-- Rows of bits in one word.
use Rattle.std.specs.Prelude.{◌≡◌, ℕ, ◌+◌, ◌-◌, ◌<◌, Bool, cond, eqb, ltb, List, length, get_or, set, bit_or}
use Rattle.std.specs.Int.{bit_at}
use Rattle.htn_model.specs.Choice.{is_free}
use Rattle.htn_model.specs.Problem.{Order, is_before}
use Rattle.htn_order.specs.BitRows.{is_set}

-- whether a bit is set in a word whose bit at a position was replaced by `count` bits of another word
abbrev pub is_set_spliced : ℕ → ℕ → ℕ → ℕ → ℕ → Bool
is_set_spliced word at count middle i = cond (ltb i at) (is_set word i) (cond (ltb i (at + count)) (is_set middle (i - at)) (is_set word (i + 1 - count)))

-- the words with the bits of one more set in word k
abbrev pub with_bits : List ℕ → ℕ → ℕ → List ℕ
with_bits words k more = set words k (bit_or (get_or words k 0) more)

-- the bits of the free positions are not set, and each other position's is
abbrev pub AreEntered : Order → ℕ → Type 0
AreEntered order word = (b : ℕ) → is_free (length order) (is_before order) b ≡ eqb (bit_at word b) 0

-- the order has fewer positions than a word has bits, and exactly the bits of the positions that are not free are set
abbrev pub AreEnteredIn : Order → ℕ → Type 0
AreEnteredIn order word = (length order < 64) × AreEntered order word
