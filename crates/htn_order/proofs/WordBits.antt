-- Bits of words that are cut, shifted and put together.
use Rattle.std.proofs.Common.{◌≡◌, ℕ, ◌+◌, ◌-◌, ◌*◌, ◌/◌, ◌%◌, ◌^◌, ◌<◌, ◌≤◌, false, cond, eqb, ltb, ◌||◌, ◌&&◌, inl, inr, sym, ap, ap₂, ◌∙◌, arith, bit_or, bit_and}
use Rattle.std.proofs.lemmas.Bool.{cases_lt, lt-ltb, le-ltb}
use Rattle.std.proofs.lemmas.Nat.{and_mask, mod_below, pow_pos, shr-shr, shr_split}
use Rattle.std.proofs.lemmas.Nat.Bits.{bit_at-zero, bit_at_above, bit_at_cat_high, bit_at_cat_low, bit_at_mask_above, bit_at_mask_below, bit_at_mask_inside, bit_at_ones, bit_at_ones_above}
use Rattle.htn_order.specs.BitRows.{is_set}
use Rattle.htn_order.specs.Shapes.{chain}
use Rattle.htn_order.specs.Words.{is_set_spliced}
use Rattle.htn_model.specs.Problem.{is_before}
use Rattle.htn_order.proofs.Bits.{is_set-or}
use Rattle.htn_order.proofs.Chains.{before_chain, not_before_chain}
use Rattle.htn_order.proofs.Tables.{or_false}

-- the lowest k bits of a word have those bits, and no others
pub is_set-mod : (w k i : ℕ) → is_set (w % 2 ^ k) i ≡ (ltb i k && is_set w i)
is_set-mod w k i = elim (cases_lt i k) [
  | inl low ↦
      sym (ap (λ b. eqb b 1) (bit_at_cat_low (w / 2 ^ k) k (w % 2 ^ k) i low))
      ∙ ap (λ v. is_set v i) (shr_split w k)
      ∙ sym (ap (λ p. p && is_set w i) (lt-ltb i k low))
  | inr high ↦
      ap (λ b. eqb b 1) (bit_at_above (w % 2 ^ k) k i (mod_below w (2 ^ k) (pow_pos k)) high)
      ∙ sym (ap (λ p. p && is_set w i) (le-ltb i k high))
]

-- a number and the word of its lowest 64 bits have the same bits below 64
is_set-whole : (w i : ℕ) → i < 64 → is_set (w % 2 ^ 64) i ≡ is_set w i
is_set-whole w i h = is_set-mod w 64 i ∙ ap (λ p. p && is_set w i) (lt-ltb i 64 h)

-- a word with its lowest k bits masked
pub is_set-low : (w k i : ℕ) → is_set (bit_and w (2 ^ k - 1)) i ≡ (ltb i k && is_set w i)
is_set-low w k i = ap (λ v. is_set v i) (and_mask w k) ∙ is_set-mod w k i

-- k ones are set below k
pub is_set-ones : (k i : ℕ) → is_set (2 ^ k - 1) i ≡ ltb i k
is_set-ones k i = elim (cases_lt i k) [
  | inl low ↦ ap (λ b. eqb b 1) (bit_at_ones k i low) ∙ sym (lt-ltb i k low)
  | inr high ↦ ap (λ b. eqb b 1) (bit_at_ones_above k i high) ∙ sym (le-ltb i k high)
]

-- a word moved up has no bits below
is_set-shl_below : (w k i : ℕ) → i < 64 → i < k → is_set (w * 2 ^ k % 2 ^ 64) i ≡ false
is_set-shl_below w k i fits low =
    is_set-whole (w * 2 ^ k) i fits
    ∙ (let e : w * 2 ^ k ≡ w * 2 ^ k + 0 = omega arith in ap (λ v. is_set v i) e)
    ∙ ap (λ b. eqb b 1) (bit_at_cat_low w k 0 i low)
    ∙ ap (λ b. eqb b 1) (bit_at-zero i)

-- a word moved up has its bits further on
is_set-shl : (w k i : ℕ) → i < 64 → k ≤ i → is_set (w * 2 ^ k % 2 ^ 64) i ≡ is_set w (i - k)
is_set-shl w k i fits high =
    is_set-whole (w * 2 ^ k) i fits
    ∙ (let e : w * 2 ^ k ≡ w * 2 ^ k + 0 = omega arith in ap (λ v. is_set v i) e)
    ∙ ap (λ b. eqb b 1) (bit_at_cat_high w k 0 i (pow_pos k) high)

-- a word moved down has its bits nearer
is_set-shr : (w k i : ℕ) → is_set (w / 2 ^ k) i ≡ is_set w (k + i)
is_set-shr w k i = ap (λ m. eqb (m % 2) 1) (shr-shr w k i)

-- what stands above a bit, moved down to the first place and up again to one that is further on
is_set-above : (word at count i : ℕ) → i < 64 → is_set (word / 2 ^ (at + 1) * 2 ^ count % 2 ^ 64) i ≡ cond (ltb i count) false (is_set word (at + 1 + (i - count)))
is_set-above word at count i fits = elim (cases_lt i count) [
  | inl low ↦
      is_set-shl_below (word / 2 ^ (at + 1)) count i fits low
      ∙ sym (ap (λ p. cond p false (is_set word (at + 1 + (i - count)))) (lt-ltb i count low))
  | inr up ↦
      is_set-shl (word / 2 ^ (at + 1)) count i fits up
      ∙ is_set-shr word (at + 1) (i - count)
      ∙ sym (ap (λ p. cond p false (is_set word (at + 1 + (i - count)))) (le-ltb i count up))
]

-- a word that has the bits above another's place behind so many others, with those others
is_set-behind : (word at count middle above i : ℕ) → ((j : ℕ) → count ≤ j → is_set middle j ≡ false) → at ≤ i
    → is_set above (i - at) ≡ cond (ltb (i - at) count) false (is_set word (at + 1 + (i - at - count)))
    → is_set (bit_or above middle) (i - at) ≡ cond (ltb i (at + count)) (is_set middle (i - at)) (is_set word (i + 1 - count))
is_set-behind word at count middle above i short up is =
    is_set-or above middle (i - at)
    ∙ ap (λ p. p || is_set middle (i - at)) is
    ∙ (elim (cases_lt i (at + count)) [
      | inl low ↦
          ap (λ p. cond p false (is_set word (at + 1 + (i - at - count))) || is_set middle (i - at)) (lt-ltb (i - at) count (omega arith))
          ∙ sym (ap (λ p. cond p (is_set middle (i - at)) (is_set word (i + 1 - count))) (lt-ltb i (at + count) low))
      | inr high ↦
          ap₂ (λ p q. cond p false (is_set word (at + 1 + (i - at - count))) || q) (le-ltb (i - at) count (omega arith)) (short (i - at) (omega arith))
          ∙ or_false (is_set word (at + 1 + (i - at - count)))
          ∙ (let e : at + 1 + (i - at - count) ≡ i + 1 - count = omega arith in ap (is_set word) e)
          ∙ sym (ap (λ p. cond p (is_set middle (i - at)) (is_set word (i + 1 - count))) (le-ltb i (at + count) high))
    ])

-- a word with others in one bit's place has the bits of both
pub is_set-spliced : (word at count middle i : ℕ) → ((j : ℕ) → count ≤ j → is_set middle j ≡ false) → i < 64
    → is_set (bit_or (bit_or (word / 2 ^ (at + 1) * 2 ^ count % 2 ^ 64) middle * 2 ^ at % 2 ^ 64) (bit_and word (2 ^ at - 1))) i
    ≡ is_set_spliced word at count middle i
is_set-spliced word at count middle i short fits =
    let above = word / 2 ^ (at + 1) * 2 ^ count % 2 ^ 64 in
    let upper = bit_or above middle in
    is_set-or (upper * 2 ^ at % 2 ^ 64) (bit_and word (2 ^ at - 1)) i
    ∙ ap (λ p. is_set (upper * 2 ^ at % 2 ^ 64) i || p) (is_set-low word at i)
    ∙ (elim (cases_lt i at) [
      | inl low ↦
          ap₂ (λ p q. p || (q && is_set word i)) (is_set-shl_below upper at i fits low) (lt-ltb i at low)
          ∙ sym (ap (λ p. cond p (is_set word i) (cond (ltb i (at + count)) (is_set middle (i - at)) (is_set word (i + 1 - count)))) (lt-ltb i at low))
      | inr up ↦
          ap₂ (λ p q. p || (q && is_set word i)) (is_set-shl upper at i fits up) (le-ltb i at up)
          ∙ or_false (is_set upper (i - at))
          ∙ is_set-behind word at count middle above i short up (is_set-above word at count (i - at) (omega arith))
          ∙ sym (ap (λ p. cond p (is_set word i) (cond (ltb i (at + count)) (is_set middle (i - at)) (is_set word (i + 1 - count)))) (le-ltb i at up))
    ])

-- ## A chain's row

-- the ones above a position and below the end are that position's row in a chain
pub is_set-chain : (n a b : ℕ) → a < n → is_set (2 ^ n - 1 - (2 ^ (a + 1) - 1)) b ≡ is_before (chain n) a b
is_set-chain n a b h =
    (let p = pow_pos (a + 1) in let e : 2 ^ n - 1 - (2 ^ (a + 1) - 1) ≡ 2 ^ n - 2 ^ (a + 1) = omega arith in ap (λ v. is_set v b) e)
    ∙ (elim (cases_lt a b) [
      | inl ahead ↦ elim (cases_lt b n) [
        | inl within ↦ ap (λ v. eqb v 1) (bit_at_mask_inside (a + 1) n b (omega arith) within) ∙ sym (before_chain n a b ahead within)
        | inr past ↦ ap (λ v. eqb v 1) (bit_at_mask_above (a + 1) n b past) ∙ sym (not_before_chain n a b (inl past))
      ]
      | inr back ↦ ap (λ v. eqb v 1) (bit_at_mask_below (a + 1) n b (omega arith)) ∙ sym (not_before_chain n a b (inr back))
    ])
