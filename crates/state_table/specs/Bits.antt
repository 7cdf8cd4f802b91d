-- Sets of numbers as bits in words of 64.
use Rattle.std.specs.Prelude.{◌≡◌, ℕ, ◌-◌, ◌/◌, ◌%◌, ◌^◌, ◌<◌, Bool, not, ◌&&◌, ◌||◌, eqb, nat_eq, List, length, get_or}
use Rattle.std.specs.Int.{bit_at, bit_not, w64}
use Rattle.std.specs.Int.Bits.{bit_and, bit_or}
use Rattle.std.specs.List.{list_any}
use Rattle.std.specs.Bool.{Decides}
use Rattle.std.specs.Cmp.{IsEquivalence, IsPartialEquivalence, partial_equiv_from_equiv, unsigned_Decides, decided}
use Rattle.std.specs.Cmp.Lexicographic.{pointwise, pointwise_decides}
use Rattle.std.specs.Hash as fed
use Rattle.std.specs.Hash.{HashWrites, Alike, same_Alike}

-- whether a bit of a word is 1
abbrev pub is_set : ℕ → ℕ → Bool
is_set word i = eqb (bit_at word i) 1

-- whether the bit of a number is set
abbrev pub has : List ℕ → ℕ → Bool
has words x = is_set (get_or words (x / 64) 0) (x % 64)

-- a word with the bits of a mask as another one has them
abbrev pub mix : ℕ → ℕ → ℕ → ℕ
mix word mask other = bit_or (bit_and word (bit_not w64 mask)) (bit_and other mask)

-- each word has 64 bits
abbrev pub AreSmall : List ℕ → Type 0
AreSmall words = (k : ℕ) → get_or words k 0 < 2 ^ 64

-- words of 64 bits, of which the last is not 0
pub record IsBits (words : List ℕ) : Type 0 where
  pub small : AreSmall words
  pub trimmed : get_or words (length words - 1) 1 ≡ 0 → ⊥

-- whether a set has a number once some are taken out and then others are put in
abbrev pub has_changed : List ℕ → List ℕ → List ℕ → ℕ → Bool
has_changed words deletes adds x = (has words x && not (list_any (eqb x) deletes)) || list_any (eqb x) adds

-- ## As keys

-- whether two sets have the same words
abbrev pub words_eq : List ℕ → List ℕ → Bool
words_eq = pointwise nat_eq

-- the test is true exactly of equal words
pub words_eq-decides : (v w : List ℕ) → Decides (words_eq v w) (v ≡ w)
words_eq-decides v w = pointwise_decides unsigned_Decides v w

-- the test has the laws of an equality
pub words_eq-laws : IsEquivalence words_eq
words_eq-laws = decided words_eq words_eq-decides

-- the test has the laws of a partial equality
pub words_eq-partial : IsPartialEquivalence words_eq
words_eq-partial = partial_equiv_from_equiv words_eq-laws

-- the writes by which words feed a hasher
abbrev pub words_hash : List ℕ → HashWrites
words_hash words = fed.slice fed.u64 words

-- equal words feed it alike
pub words_hash-Alike : Alike words_eq words_hash
words_hash-Alike = same_Alike words_hash words_eq-decides
