-- How many positions are before each of 64 positions, counted row by row.
use Rattle.std.proofs.Common.{◌≡◌, ℕ, zero, suc, ◌+◌, ◌-◌, ◌*◌, ◌^◌, ◌≤◌, ◌<◌, ◌++◌, ◌∷◌, [], inl, inr, Bool, true, false, cond, eqb, List, length, get_or, min, replicate, refl, sym, ap, ap₂, ◌∙◌, subst, arith}
use Rattle.std.specs.Int.{bit_at}
use Rattle.std.proofs.lemmas.Bool.{both_ways, cases_lt, cases_eq}
use Rattle.std.proofs.lemmas.List.{get_or-replicate, get_or_append_left, get_or_past, get_or_push, length-replicate, length_push}
use Rattle.std.proofs.lemmas.Nat.Bits.{bit_at-lt}
use Rattle.std.proofs.Math.Nat.{mul-le-mul_left}
use Rattle.htn_model.specs.Problem.{Order, is_before}
use Rattle.htn_order.specs.BitRows.{IsPacked, is_set, rows_of, words_per_row}
use Rattle.htn_order.specs.Counts.{AreColumnCounts, AreCounted, count_below, lane, predecessor_count}
use Rattle.htn_order.specs.Shapes.{chain}
use Rattle.htn_order.proofs.Bits.{low_bit}
use Rattle.htn_order.proofs.Chains.{before_chain, chain_size, not_before_chain}
use Rattle.htn_order.proofs.LaneSums.{lane_zeros}
use Rattle.htn_order.proofs.Packed.{row_bit}

-- ## Counts

-- what a flag counts
abbrev pub flag : Bool → ℕ
flag b = cond b 1 0

-- a flag counts one at most
one_small : (b : Bool) → cond b 1 0 ≤ 1
one_small true = omega arith
one_small false = omega arith

-- no more numbers pass than there are
pub count_low : (test : ℕ → Bool) (n : ℕ) → count_below test n ≤ n
count_low test zero = omega arith
count_low test (suc n) = let more = count_low test n in let here = one_small (test n) in omega arith

-- one more number counts as its test says
pub count_more : (test : ℕ → Bool) (n : ℕ) → count_below test (n + 1) ≡ count_below test n + cond (test n) 1 0
count_more test n = ap (count_below test) (let e : n + 1 ≡ suc n = omega arith in e)

-- ## Rows in lanes

-- a bit counts one where it is set
bit_value : (word j : ℕ) (b : Bool) → is_set word j ≡ b → bit_at word j ≡ cond b 1 0
bit_value word j true is = elim (low_bit (bit_at word j) (bit_at-lt word j)) [
  | inl e ↦ absurd (both_ways (is_set word j) (ap (λ b. eqb b 1) e) is)
  | inr e ↦ e
]
bit_value word j false is = elim (low_bit (bit_at word j) (bit_at-lt word j)) [
  | inl e ↦ e
  | inr e ↦ absurd (both_ways (is_set word j) is (ap (λ b. eqb b 1) e))
]

-- a bit of a row's word counts the row's position where it is before the bit's
pub row_value : (n : ℕ) (words : List ℕ) → IsPacked n words → (a k j : ℕ) → a < n → k < words_per_row n → j < 64
    → bit_at (get_or words (a * words_per_row n + k) 0) j ≡ cond (is_before (rows_of n words) a (64 * k + j)) 1 0
row_value n words packed a k j row column low =
    bit_value (get_or words (a * words_per_row n + k) 0) j (is_before (rows_of n words) a (64 * k + j)) (row_bit n words packed (a * words_per_row n + k) a k j row column refl low)

-- a table has no more rows than words
pub rows_low : (n : ℕ) (words : List ℕ) → length words ≡ n * words_per_row n → n ≤ length words
rows_low n words whole = let more : n * 1 ≤ n * words_per_row n = mul-le-mul_left n (let w : 1 ≤ words_per_row n = omega arith in w) in omega arith

-- lanes that have 0 each count no rows
pub no_rows : (order : Order) (from : ℕ) (lanes : List ℕ) → length lanes ≡ 64 → ((j : ℕ) → lane lanes j (length lanes) ≡ 0) → AreColumnCounts order from 0 lanes
no_rows order from lanes wide none = record { wide = wide; counts = λ j low. none j }

-- the sum of a number of rows and one row more fits so many digits
pub row_fits : (order : Order) (from a n : ℕ) (lanes : List ℕ) → AreColumnCounts order from a lanes → a < n → n < 2 ^ 64 → (j : ℕ) → j < 64
    → lane lanes j (length lanes) + 1 < 2 ^ length lanes
row_fits order from a n lanes so less fits j low =
    let few = count_low (λ b. is_before order b (from + j)) a in
    let is = so.counts j low in
    let small : lane lanes j (length lanes) + 1 < 2 ^ 64 = omega arith in
    subst (λ m. lane lanes j (length lanes) + 1 < 2 ^ m) (sym so.wide) small

-- with one row more in the lanes
pub row_more : (order : Order) (from a word : ℕ) (lanes new : List ℕ) → length new ≡ length lanes → AreColumnCounts order from a lanes
    → ((j : ℕ) → j < 64 → lane new j (length lanes) ≡ lane lanes j (length lanes) + bit_at word j)
    → ((j : ℕ) → j < 64 → bit_at word j ≡ cond (is_before order a (from + j)) 1 0) → AreColumnCounts order from (a + 1) new
row_more order from a word lanes new long so added value = record {
  wide = long ∙ so.wide;
  counts = λ j low.
      ap (lane new j) long ∙ added j low ∙ ap₂ (λ x y. x + y) (so.counts j low) (value j low)
      ∙ sym (count_more (λ b. is_before order b (from + j)) a);
}

-- each of some equal words is the one that they are, if that is also what stands past them
same_words : (n m x : ℕ) → get_or (replicate n x) m x ≡ x
same_words n m x = elim (cases_lt m n) [
  | inl low ↦ get_or-replicate n m x x low
  | inr past ↦ get_or_past (replicate n x) m x (let e = length-replicate n x in omega arith)
]

-- words that are all 0 have 0 in each lane
pub zeros : (n j : ℕ) (words : List ℕ) → words ≡ replicate n 0 → lane words j (length words) ≡ 0
zeros n j words is = lane_zeros words j (length words) (λ m. ap (λ xs. get_or xs m 0) is ∙ same_words n m 0)

-- ## Lanes in a list of counts

-- with one count more
pub counted_more : (order : Order) (n value : ℕ) (counts new : List ℕ) → AreCounted order n counts → new ≡ counts ++ value ∷ [] → value ≡ predecessor_count order n
    → AreCounted order (n + 1) new
counted_more order n value counts new so is same = record {
  size = ap length is ∙ length_push counts value ∙ ap (λ m. m + 1) so.size;
  each = λ a low. ap (λ xs. get_or xs a 0) is ∙ (elim (cases_eq a n) [
    | inl here ↦ get_or_push counts value 0 a (so.size ∙ sym here) ∙ same ∙ ap (predecessor_count order) (sym here)
    | inr other ↦ get_or_append_left counts (value ∷ []) 0 a (let s = so.size in omega arith) ∙ so.each a (omega arith)
  ]);
}

-- none is counted at first
pub counted_none : (order : Order) (counts : List ℕ) → length counts ≡ 0 → AreCounted order 0 counts
counted_none order counts none = record { size = none; each = λ a low. absurd (omega arith) }

-- a lane has the count of its position
pub lane_counts : (order : Order) (from position : ℕ) (lanes : List ℕ) → AreColumnCounts order from (length order) lanes → from ≤ position → position < from + 64
    → lane lanes (position - from) (length lanes) ≡ predecessor_count order position
lane_counts order from position lanes so low high =
    so.counts (position - from) (omega arith)
    ∙ (let e : from + (position - from) ≡ position = omega arith in ap (predecessor_count order) e)

-- a count fits where the number of positions does
pub lane_fits : (order : Order) (from j : ℕ) (lanes : List ℕ) → AreColumnCounts order from (length order) lanes → length order < 2 ^ 64 → j < 64 → lane lanes j (length lanes) < 2 ^ 64
lane_fits order from j lanes so fits low =
    let few = count_low (λ b. is_before order b (from + j)) (length order) in let is = so.counts j low in omega arith

-- ## A chain

-- so many positions of a chain are before one as its own number says
chain_count : (n a k : ℕ) → a < n → k ≤ n → count_below (λ b. is_before (chain n) b a) k ≡ min k a
chain_count n a zero low within = let e : 0 ≡ min 0 a = omega arith in e
chain_count n a (suc k) low within = elim (cases_lt k a) [
  | inl less ↦ ap₂ (λ x b. x + cond b 1 0) (chain_count n a k low (omega arith)) (before_chain n k a less low) ∙ (let e : min k a + 1 ≡ min (suc k) a = omega arith in e)
  | inr more ↦ ap₂ (λ x b. x + cond b 1 0) (chain_count n a k low (omega arith)) (not_before_chain n k a (inr more)) ∙ (let e : min k a + 0 ≡ min (suc k) a = omega arith in e)
]

-- the numbers of a chain's positions are their counts
pub chain_counted : (n : ℕ) (counts : List ℕ) → length counts ≡ n → ((i : ℕ) → i < n → get_or counts i 0 ≡ i) → AreCounted (chain n) (length (chain n)) counts
chain_counted n counts size each = record {
  size = size ∙ sym (chain_size n);
  each = λ a low. (
      let e = chain_size n in
      let under : a < n = omega arith in
      each a under ∙ sym (ap (count_below (λ b. is_before (chain n) b a)) e ∙ chain_count n a n under (omega arith) ∙ (let f : min n a ≡ a = omega arith in f)));
}
