-- Bits of words.
use Rattle.std.proofs.Common.{◌≡◌, ℕ, zero, suc, ◌+◌, ◌-◌, ◌*◌, ◌/◌, ◌%◌, ◌^◌, ◌<◌, Bool, true, false, cond, eqb, max, ◌||◌, ◌⊎◌, inl, inr, refl, sym, ap, ap₂, ◌∙◌, subst, arith, bit_or, bit_and}
use Rattle.std.specs.Int.{bit_at, w64}
use Rattle.std.proofs.lemmas.Bool.{cases_lt, cases_eq, eq-eqb, ne_eqb, both_ways}
use Rattle.std.proofs.lemmas.Nat.Bits.{bit_at-lt, bit_at_or, bit_at_set_same, bit_at_set_other, bit_at-zero, bit_at_cat_low, bit_at_cat_high, shr_and_one}
use Rattle.htn_order.specs.BitRows.{is_set, number_of}

-- a bit is 0 or 1
pub low_bit : (a : ℕ) → a < 2 → (a ≡ 0) ⊎ (a ≡ 1)
low_bit a h = elim (cases_lt a 1) [ inl less ↦ inl (omega arith) | inr more ↦ inr (omega arith) ]

-- the greater of two bits is set exactly where one of them is
either : (a b : ℕ) → a < 2 → b < 2 → eqb (max a b) 1 ≡ (eqb a 1 || eqb b 1)
either a b h g = elim (low_bit a h) [
  | inl e ↦ elim (low_bit b g) [
    | inl f ↦ ap₂ (λ x y. eqb (max x y) 1) e f ∙ sym (ap₂ (λ x y. eqb x 1 || eqb y 1) e f)
    | inr f ↦ ap₂ (λ x y. eqb (max x y) 1) e f ∙ sym (ap₂ (λ x y. eqb x 1 || eqb y 1) e f)
  ]
  | inr e ↦ elim (low_bit b g) [
    | inl f ↦ ap₂ (λ x y. eqb (max x y) 1) e f ∙ sym (ap₂ (λ x y. eqb x 1 || eqb y 1) e f)
    | inr f ↦ ap₂ (λ x y. eqb (max x y) 1) e f ∙ sym (ap₂ (λ x y. eqb x 1 || eqb y 1) e f)
  ]
]

-- a bit of two words together is set exactly where it is in one of them
pub is_set-or : (v w i : ℕ) → is_set (bit_or v w) i ≡ (is_set v i || is_set w i)
is_set-or v w i = ap (λ b. eqb b 1) (bit_at_or v w i) ∙ either (bit_at v i) (bit_at w i) (bit_at-lt v i) (bit_at-lt w i)

-- no bit of 0 is set
pub is_set-zero : (i : ℕ) → is_set 0 i ≡ false
is_set-zero i = ap (λ b. eqb b 1) (bit_at-zero i)

-- with what holds, either holds
or_true : (p : Bool) → (p || true) ≡ true
or_true true = refl
or_true false = refl

-- with what fails, either is the other
or_false : (p : Bool) → (p || false) ≡ p
or_false true = refl
or_false false = refl

-- a word with one more bit
pub is_set-with : (w k i : ℕ) → k < 64 → is_set (bit_or w (1 * 2 ^ k % 2 ^ 64)) i ≡ (is_set w i || eqb i k)
is_set-with w k i h = elim (cases_eq i k) [
  | inl same ↦ ap (is_set (bit_or w (1 * 2 ^ k % 2 ^ 64))) same ∙ ap (λ b. eqb b 1) (bit_at_set_same w64 w k h) ∙ sym (ap (λ p. is_set w i || p) (eq-eqb i k same) ∙ or_true (is_set w i))
  | inr other ↦ ap (λ b. eqb b 1) (bit_at_set_other w64 w k h i other) ∙ sym (ap (λ p. is_set w i || p) (ne_eqb i k other) ∙ or_false (is_set w i))
]

-- the bit that a shift and a mask read
pub read_bit : (w k : ℕ) → eqb (bit_and (w / 2 ^ k) 1) 1 ≡ is_set w k
read_bit w k = ap (λ b. eqb b 1) (shr_and_one w k)

-- bits are equal where they are set alike
pub bit_from_set : (v w i j : ℕ) → is_set v i ≡ is_set w j → bit_at v i ≡ bit_at w j
bit_from_set v w i j alike = elim (low_bit (bit_at v i) (bit_at-lt v i)) [
  | inl e ↦ elim (low_bit (bit_at w j) (bit_at-lt w j)) [
    | inl f ↦ e ∙ sym f
    | inr f ↦ absurd (both_ways (is_set v i) (ap (λ b. eqb b 1) e) (alike ∙ ap (λ b. eqb b 1) f))
  ]
  | inr e ↦ elim (low_bit (bit_at w j) (bit_at-lt w j)) [
    | inl f ↦ absurd (both_ways (is_set w j) (ap (λ b. eqb b 1) f) (sym alike ∙ ap (λ b. eqb b 1) e))
    | inr f ↦ e ∙ sym f
  ]
]

-- ## The number of some bits

-- a test as a digit is below 2
digit_lt : (b : Bool) → cond b 1 0 < 2
digit_lt true = omega arith
digit_lt false = omega arith

-- the word of so many tests fits so many bits
pub number_of_lt : (test : ℕ → Bool) (w : ℕ) → number_of test w < 2 ^ w
unfolding number_of
number_of_lt test zero = omega arith
number_of_lt test (suc w) = let low = number_of_lt test w in let d = digit_lt (test w) in step (cond (test w) 1 0) (2 ^ w) (number_of test w) (2 ^ suc w) d low (pow_step w)
  where
    pow_step : (w : ℕ) → 2 ^ suc w ≡ 2 * 2 ^ w
    pow_step w = omega arith

    step : (d p n q : ℕ) → d < 2 → n < p → q ≡ 2 * p → d * p + n < q
    step d p n q h g e = elim (low_bit d h) [
      | inl z ↦ subst (λ d. d * p + n < q) (sym z) (omega arith)
      | inr o ↦ subst (λ d. d * p + n < q) (sym o) (omega arith)
    ]

-- a test as a digit is set exactly where it holds
digit_set : (b : Bool) → is_set (cond b 1 0) 0 ≡ b
digit_set true = refl
digit_set false = refl

-- a bit of the word of tests is set exactly where its test holds
pub is_set-number_of : (test : ℕ → Bool) (w i : ℕ) → i < w → is_set (number_of test w) i ≡ test i
unfolding number_of
is_set-number_of test zero i h = absurd (omega arith)
is_set-number_of test (suc w) i h = elim (cases_lt i w) [
  | inl low ↦ ap (λ b. eqb b 1) (bit_at_cat_low (cond (test w) 1 0) w (number_of test w) i low) ∙ is_set-number_of test w i low
  | inr high ↦ (let e : i ≡ w = omega arith in
      ap (is_set (number_of test (suc w))) e
      ∙ ap (λ b. eqb b 1) (bit_at_cat_high (cond (test w) 1 0) w (number_of test w) w (number_of_lt test w) (omega arith))
      ∙ (let z : w - w ≡ 0 = omega arith in ap (is_set (cond (test w) 1 0)) z) ∙ digit_set (test w) ∙ ap test (sym e))
]
