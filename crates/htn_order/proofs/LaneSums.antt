-- Numbers in lanes: a word's bits are added to them, and one of them is read.
use Rattle.std.proofs.Common.{Fits, ◌≡◌, ℕ, zero, suc, ◌+◌, ◌*◌, ◌%◌, ◌^◌, ◌≤◌, ◌<◌, inl, inr, min, List, length, get_or, set, refl, sym, ap, ap₂, ◌∙◌, subst, arith, bit_and, bit_xor, get_or-set_same, get_or-set_other}
use Rattle.std.specs.Int.{bit_at, w64}
use Rattle.std.proofs.Math.Nat.{mul-le-mul_left}
use Rattle.std.proofs.lemmas.Bool.{cases_eq}
use Rattle.std.proofs.lemmas.Nat.{pow_pos}
use Rattle.std.proofs.lemmas.Nat.Bits.{bit_at-lt, bit_at-zero, bit_at_and, bit_at_xor}
use Rattle.htn_order.specs.Counts.{lane}
use Rattle.htn_order.proofs.Bits.{low_bit}

-- ## Lanes of words

-- lanes with no digits have 0
pub lane_none : (words : List ℕ) (j : ℕ) → lane words j 0 ≡ 0
unfolding lane
lane_none words j = refl

-- one more digit has twice the worth of the one before
pub lane_more : (words : List ℕ) (j n : ℕ) → lane words j (suc n) ≡ lane words j n + bit_at (get_or words n 0) j * 2 ^ n
unfolding lane
lane_more words j n = refl

-- words that are equal have equal lanes
pub lane_alike : (xs ys : List ℕ) (j n : ℕ) → ((m : ℕ) → m < n → get_or xs m 0 ≡ get_or ys m 0) → lane xs j n ≡ lane ys j n
lane_alike xs ys j zero same = lane_none xs j ∙ sym (lane_none ys j)
lane_alike xs ys j (suc n) same =
    lane_more xs j n
    ∙ ap₂ (λ a w. a + bit_at w j * 2 ^ n) (lane_alike xs ys j n (λ m low. same m (omega arith))) (same n (omega arith))
    ∙ sym (lane_more ys j n)

-- a sum with equal parts more
same_more : (a b c x y : ℕ) → a ≡ b + c → x ≡ y → a + x ≡ b + y + c
same_more a b c x y e f = omega arith

-- where later words are equal, lanes keep their difference
pub lane_later : (xs ys : List ℕ) (j i b : ℕ) → ((m : ℕ) → i ≤ m → get_or xs m 0 ≡ get_or ys m 0) → lane xs j i ≡ lane ys j i + b
    → (n : ℕ) → i ≤ n → lane xs j n ≡ lane ys j n + b
lane_later xs ys j i b same here zero low = subst (λ k. lane xs j k ≡ lane ys j k + b) (let e : i ≡ 0 = omega arith in e) here
lane_later xs ys j i b same here (suc n) low = elim (cases_eq i (suc n)) [
  | inl is ↦ subst (λ k. lane xs j k ≡ lane ys j k + b) is here
  | inr other ↦
      lane_more xs j n
      ∙ same_more (lane xs j n) (lane ys j n) b (bit_at (get_or xs n 0) j * 2 ^ n) (bit_at (get_or ys n 0) j * 2 ^ n)
      (lane_later xs ys j i b same here n (omega arith)) (ap (λ w. bit_at w j * 2 ^ n) (same n (omega arith)))
      ∙ ap (λ a. a + b) (sym (lane_more ys j n))
]

-- words that are all 0 have 0 in each lane
pub lane_zeros : (words : List ℕ) (j n : ℕ) → ((m : ℕ) → get_or words m 0 ≡ 0) → lane words j n ≡ 0
lane_zeros words j zero all = lane_none words j
lane_zeros words j (suc n) all =
    lane_more words j n
    ∙ ap₂ (λ a d. a + d * 2 ^ n) (lane_zeros words j n all) (ap (λ w. bit_at w j) (all n) ∙ bit_at-zero j)
    ∙ nothing (2 ^ n)
  where
    nothing : (a : ℕ) → 0 + 0 * a ≡ 0
    nothing a = omega arith

-- ## A word's bits are added

-- the next power of two
pow_step : (w : ℕ) → 2 ^ suc w ≡ 2 * 2 ^ w
pow_step w = omega arith

-- two digits make a digit and a carry
carry_step : (p c a b : ℕ) → p < 2 → c < 2 → b ≡ 2 * a → (p + c) % 2 * a + min c p * b ≡ p * a + c * a
carry_step p c a b lp lc e =
    let Is : ℕ → ℕ → Type 0 = λ p c. (p + c) % 2 * a + min c p * b ≡ p * a + c * a in
    elim (low_bit p lp) [
      | inl x ↦ elim (low_bit c lc) [
        | inl y ↦ subst (λ p. Is p c) (sym x) (subst (λ c. Is 0 c) (sym y) (omega arith))
        | inr y ↦ subst (λ p. Is p c) (sym x) (subst (λ c. Is 0 c) (sym y) (omega arith))
      ]
      | inr x ↦ elim (low_bit c lc) [
        | inl y ↦ subst (λ p. Is p c) (sym x) (subst (λ c. Is 1 c) (sym y) (omega arith))
        | inr y ↦ subst (λ p. Is p c) (sym x) (subst (λ c. Is 1 c) (sym y) (omega arith))
      ]
    ]

-- with digits in place of a carry, a sum is as before
carried : (l o x n p c w : ℕ) → l + c ≡ o + w → x + n ≡ p + c → l + x + n ≡ o + p + w
carried l o x n p c w e f = omega arith

-- a number by one
times_one : (x : ℕ) → x * 2 ^ 0 ≡ x
times_one x = omega arith

-- without a carry the sum is whole
no_carry : (l o w z a : ℕ) → z ≡ 0 → l + z * a ≡ o + w → l ≡ o + w
no_carry l o w z a e f = let none : z * a ≡ 0 * a = ap (λ x. x * a) e in omega arith

-- a carry past the last digit doesn't fit
past_carry : (l o w z a : ℕ) → w < 2 → z ≡ 1 → l + z * a ≡ o + w → o + 1 < a → ⊥
past_carry l o w z a small e f fits = let one : z * a ≡ 1 * a = ap (λ x. x * a) e in omega arith

module _ (old : List ℕ) (word : ℕ) where
  -- the first i words have the sums' digits, and a carry the rest
  pub record IsAdding (new : List ℕ) (carry i : ℕ) : Type 0 where
    pub sum : (j : ℕ) → lane new j i + bit_at carry j * 2 ^ i ≡ lane old j i + bit_at word j
    pub rest : (m : ℕ) → i ≤ m → get_or new m 0 ≡ get_or old m 0

  -- at first the whole word is carried
  pub adding_start : IsAdding old word 0
  adding_start = record { sum = λ j. ap (λ x. lane old j 0 + x) (times_one (bit_at word j)); rest = λ m low. refl }

  -- with one digit more
  pub adding_more : (new : List ℕ) (carry i : ℕ) → i < length new → IsAdding new carry i
      → IsAdding (set new i (bit_xor (get_or new i 0) carry)) (bit_and carry (get_or new i 0)) (i + 1)
  adding_more new carry i low so =
      let digits = get_or new i 0 in
      let xs = set new i (bit_xor digits carry) in
      record {
        sum = λ j. (
            let p = bit_at digits j in
            let c = bit_at carry j in
            let first : lane xs j i ≡ lane new j i = lane_alike xs new j i (λ m less. get_or-set_other new i m (bit_xor digits carry) 0 (λ e. omega arith)) in
            let digit : bit_at (get_or xs i 0) j ≡ (p + c) % 2 = ap (λ w. bit_at w j) (get_or-set_same new i (bit_xor digits carry) 0 low) ∙ bit_at_xor digits carry j in
            let on : bit_at (bit_and carry digits) j ≡ min c p = bit_at_and carry digits j in
            let both : bit_at (get_or xs i 0) j * 2 ^ i + bit_at (bit_and carry digits) j * 2 ^ suc i ≡ p * 2 ^ i + c * 2 ^ i =
            ap₂ (λ x n. x * 2 ^ i + n * 2 ^ suc i) digit on ∙ carry_step p c (2 ^ i) (2 ^ suc i) (bit_at-lt digits j) (bit_at-lt carry j) (pow_step i) in
            subst (λ k. lane xs j k + bit_at (bit_and carry digits) j * 2 ^ k ≡ lane old j k + bit_at word j) (let e : suc i ≡ i + 1 = omega arith in e)
            (ap (λ a. a + bit_at (bit_and carry digits) j * 2 ^ suc i) (lane_more xs j i ∙ ap (λ a. a + bit_at (get_or xs i 0) j * 2 ^ i) first)
            ∙ carried (lane new j i) (lane old j i) (bit_at (get_or xs i 0) j * 2 ^ i) (bit_at (bit_and carry digits) j * 2 ^ suc i) (p * 2 ^ i) (c * 2 ^ i) (bit_at word j) (so.sum j) both
            ∙ ap (λ w. lane old j i + bit_at w j * 2 ^ i + bit_at word j) (so.rest i (omega arith))
            ∙ ap (λ a. a + bit_at word j) (sym (lane_more old j i))));
        rest = λ m past. get_or-set_other new i m (bit_xor digits carry) 0 (λ e. omega arith) ∙ so.rest m (omega arith);
      }

  -- once nothing is carried, all lanes have the sums
  pub adding_over : (new : List ℕ) (carry i : ℕ) → carry ≡ 0 → IsAdding new carry i → (n : ℕ) → i ≤ n → (j : ℕ) → lane new j n ≡ lane old j n + bit_at word j
  adding_over new carry i none so n low j =
      lane_later new old j i (bit_at word j) so.rest
      (no_carry (lane new j i) (lane old j i) (bit_at word j) (bit_at carry j) (2 ^ i) (ap (λ w. bit_at w j) none ∙ bit_at-zero j) (so.sum j)) n low

  -- and they do after the last digit, where the sums fit
  pub adding_whole : (new : List ℕ) (carry n : ℕ) → IsAdding new carry n → (j : ℕ) → lane old j n + 1 < 2 ^ n → lane new j n ≡ lane old j n + bit_at word j
  adding_whole new carry n so j fits = elim (low_bit (bit_at carry j) (bit_at-lt carry j)) [
    | inl none ↦ no_carry (lane new j n) (lane old j n) (bit_at word j) (bit_at carry j) (2 ^ n) none (so.sum j)
    | inr one ↦ absurd (past_carry (lane new j n) (lane old j n) (bit_at word j) (bit_at carry j) (2 ^ n) (bit_at-lt word j) one (so.sum j) fits)
  ]

-- ## A lane is read from the highest digit on

-- a digit is moved from the lane to the number
moved : (n b a c l t : ℕ) → c ≡ 2 * a → n * c + (l + b * a) ≡ t → (n * 2 + b) * a + l ≡ t
moved n b a c l t e f = let twice : n * c ≡ n * (2 * a) = ap (λ x. n * x) e in omega arith

-- with one digit more in the number
pub read_more : (words : List ℕ) (j p number total : ℕ) → number * 2 ^ suc p + lane words j (suc p) ≡ total
    → (number * 2 + bit_at (get_or words p 0) j) * 2 ^ p + lane words j p ≡ total
read_more words j p number total so =
    moved number (bit_at (get_or words p 0) j) (2 ^ p) (2 ^ suc p) (lane words j p) total (pow_step p)
    (ap (λ a. number * 2 ^ suc p + a) (sym (lane_more words j p)) ∙ so)

-- a number is no greater than its worth
read_low : (x a l t : ℕ) → 0 < a → x * a + l ≡ t → x ≤ t
read_low x a l t pos e = let more : x * 1 ≤ x * a = mul-le-mul_left x pos in omega arith

-- so a number with one digit more is no greater than the lane's
pub read_fits : (words : List ℕ) (j p number total : ℕ) → number * 2 ^ suc p + lane words j (suc p) ≡ total → number * 2 + bit_at (get_or words p 0) j ≤ total
read_fits words j p number total so =
    read_low (number * 2 + bit_at (get_or words p 0) j) (2 ^ p) (lane words j p) total (pow_pos p) (read_more words j p number total so)

-- what is no greater than a number that fits does so too
pub low_fits : (x t : ℕ) → x ≤ t → t < 2 ^ 64 → Fits w64 x
low_fits x t low fits = omega arith

-- with all digits in the number it is the lane's
pub read_whole : (words : List ℕ) (j number total : ℕ) → number * 2 ^ 0 + lane words j 0 ≡ total → number ≡ total
read_whole words j number total so = sym (times_one number) ∙ plus_none (number * 2 ^ 0) (lane words j 0) (lane_none words j) ∙ so
  where
    plus_none : (a b : ℕ) → b ≡ 0 → a ≡ a + b
    plus_none a b e = omega arith
