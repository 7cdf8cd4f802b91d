-- Tables of bits in words of 64.
use Rattle.std.specs.Prelude.{◌≡◌, ℕ, zero, suc, ◌+◌, ◌*◌, ◌/◌, ◌%◌, ◌^◌, ◌<◌, ◌≤◌, ◌++◌, Bool, false, cond, eqb, List, [], length, get_or, set, map, bit_or}
use Rattle.std.specs.Int.{bit_at}
use Rattle.std.specs.List.{range_with_len}
use Rattle.std.specs.Hash as fed
use Rattle.std.specs.Hash.{HashWrites}
use Rattle.htn_model.specs.Problem.{Order}
use Rattle.htn_model.specs.Machine.{table}

-- how many words hold a row
abbrev pub words_per_row : ℕ → ℕ
words_per_row size = size / 64 + 1

-- word k of row a, in rows of that many words
abbrev pub word_at : ℕ → List ℕ → ℕ → ℕ → ℕ
word_at width words a k = get_or words (a * width + k) 0

-- whether a word has the bit at a position
abbrev pub is_set : ℕ → ℕ → Bool
is_set word i = eqb (bit_at word i) 1

-- bit b of row a
abbrev pub bit : ℕ → List ℕ → ℕ → ℕ → Bool
bit width words a b = is_set (word_at width words a (b / 64)) (b % 64)

-- the table of the order whose bits are these words, row by row
abbrev pub rows_of : ℕ → List ℕ → Order
rows_of size words = table size (bit (words_per_row size) words)

-- row a has whole words, whose bits past the last position are not set
pub record IsPacked (size : ℕ) (words : List ℕ) : Type 0 where
  pub whole : length words ≡ size * words_per_row size
  pub small : (i : ℕ) → get_or words i 0 < 2 ^ 64
  pub spare : (a b : ℕ) → a < size → size ≤ b → b / 64 < words_per_row size → bit (words_per_row size) words a b ≡ false

-- the words with bit b of row a set
abbrev pub with_bit : ℕ → List ℕ → ℕ → ℕ → List ℕ
with_bit width words a b = set words (a * width + b / 64) (bit_or (word_at width words a (b / 64)) (1 * 2 ^ (b % 64) % 2 ^ 64))

-- word k of row x once row a has the bits of row b too
abbrev pub united : ℕ → List ℕ → ℕ → ℕ → ℕ → ℕ → ℕ
united width words a b x k = cond (eqb x a) (bit_or (word_at width words a k) (word_at width words b k)) (word_at width words x k)

-- the number whose lowest w bits are those that the test passes
unfoldable pub number_of : (ℕ → Bool) → ℕ → ℕ
number_of test zero = 0
number_of test (suc w) = cond (test w) 1 0 * 2 ^ w + number_of test w

-- a table's rows in words
abbrev pub word_of : Order → ℕ → ℕ
word_of order i = number_of (λ j. get_or (get_or order (i / words_per_row (length order)) []) (64 * (i % words_per_row (length order)) + j) false) 64

-- the words of all bits of an order, row by row
abbrev pub words_of : Order → List ℕ
words_of order = map (word_of order) (range_with_len 0 (length order * words_per_row (length order)))

-- what a table feeds a hasher
abbrev pub rows_hash : Order → HashWrites
rows_hash order = fed.usize (length order) ++ fed.slice fed.u64 (words_of order)
