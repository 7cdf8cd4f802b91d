-- The loop that adds one row of words to another.
use Rattle.std.proofs.Common.{◌≡◌, ◌≢◌, ℕ, ◌+◌, ◌*◌, ◌/◌, ◌%◌, ◌^◌, ◌<◌, ◌≤◌, Bool, false, cond, eqb, ltb, ◌||◌, ◌&&◌, inl, inr, List, length, get_or, set, sym, ap, ap₂, ◌∙◌, subst, arith, bit_or}
use Rattle.std.proofs.lemmas.Bool.{cases_lt, cases_eq, eq-eqb, ne_eqb, lt-ltb, le-ltb, and_right}
use Rattle.std.proofs.lemmas.Nat.{div-add-mod', mod_below, or_lt}
use Rattle.htn_order.specs.BitRows.{IsPacked, bit, united, word_at, words_per_row}
use Rattle.htn_order.proofs.Packed.{word_at-set_same, word_at-set_other, united_bit}

-- the first k words of row a have the bits of row b too
abbrev pub UnitedUpTo : ℕ → List ℕ → ℕ → ℕ → ℕ → List ℕ → Type 0
UnitedUpTo width old a b k words =
    (x j : ℕ) → j < width → word_at width words x j ≡ cond (ltb j k) (united width old a b x j) (word_at width old x j)

-- before the loop no word is united
pub united_start : (width : ℕ) (old : List ℕ) (a b : ℕ) → UnitedUpTo width old a b 0 old
united_start width old a b x j h = sym (ap (λ p. cond p (united width old a b x j) (word_at width old x j)) (le-ltb j 0 (omega arith)))

-- after the loop each word is united
pub united_end : (width : ℕ) (old : List ℕ) (a b k : ℕ) (words : List ℕ) → width ≤ k → UnitedUpTo width old a b k words
    → (x j : ℕ) → j < width → word_at width words x j ≡ united width old a b x j
united_end width old a b k words past so_far x j h =
    so_far x j h ∙ ap (λ p. cond p (united width old a b x j) (word_at width old x j)) (lt-ltb j k (omega arith))

-- one word more is united
pub united_step : (width : ℕ) (old : List ℕ) (a b k : ℕ) (words : List ℕ) → k < width → a * width + k < length words → UnitedUpTo width old a b k words
    → UnitedUpTo width old a b (k + 1) (set words (a * width + k) (bit_or (word_at width words a k) (word_at width words b k)))
united_step width old a b k words low fits so_far x j h = elim (cases_eq j k) [
  | inl here ↦ elim (cases_eq x a) [
    | inl same ↦
        ap₂ (word_at width (set words (a * width + k) (bit_or (word_at width words a k) (word_at width words b k)))) same here
        ∙ word_at-set_same width words a k _ fits
        ∙ ap₂ bit_or (untouched a) (untouched b)
        ∙ sym (ap (λ p. cond p (united width old a b x j) (word_at width old x j)) (lt-ltb j (k + 1) (omega arith))
        ∙ ap (λ p. cond p (bit_or (word_at width old a j) (word_at width old b j)) (word_at width old x j)) (eq-eqb x a same)
        ∙ ap (λ m. bit_or (word_at width old a m) (word_at width old b m)) here)
    | inr other ↦
        word_at-set_other width words a k _ x j low h (λ e. other e.0)
        ∙ so_far x j h
        ∙ ap (λ p. cond p (united width old a b x j) (word_at width old x j)) (le-ltb j k (omega arith))
        ∙ sym (ap (λ p. cond p (united width old a b x j) (word_at width old x j)) (lt-ltb j (k + 1) (omega arith))
        ∙ ap (λ p. cond p (bit_or (word_at width old a j) (word_at width old b j)) (word_at width old x j)) (ne_eqb x a other))
  ]
  | inr apart ↦
      word_at-set_other width words a k _ x j low h (λ e. apart e.1)
      ∙ so_far x j h
      ∙ ap (λ p. cond p (united width old a b x j) (word_at width old x j)) (elim (cases_lt j k) [
        | inl before ↦ lt-ltb j k before ∙ sym (lt-ltb j (k + 1) (omega arith))
        | inr after ↦ (let not_here : j ≢ k = apart in le-ltb j k after ∙ sym (le-ltb j (k + 1) (omega arith)))
      ])
]
  where
    untouched : (u : ℕ) → word_at width words u k ≡ word_at width old u k
    untouched u = so_far u k low ∙ ap (λ p. cond p (united width old a b u k) (word_at width old u k)) (le-ltb k k (omega arith))

-- united words fit 64 bits
pub united_small : (n : ℕ) (old new : List ℕ) (a b : ℕ) → IsPacked n old → ((x k : ℕ) → k < words_per_row n → word_at (words_per_row n) new x k ≡ united (words_per_row n) old a b x k)
    → (i : ℕ) → get_or new i 0 < 2 ^ 64
united_small n old new a b packed is i =
    let width = words_per_row n in
    let positive : 0 < width = omega arith in
    let place : i / width * width + i % width ≡ i = div-add-mod' i width in
    let here : get_or new i 0 ≡ united width old a b (i / width) (i % width) =
    ap (λ p. get_or new p 0) (sym place) ∙ is (i / width) (i % width) (mod_below i width positive) in
    subst (λ w. w < 2 ^ 64) (sym here) (elim (cases_eq (i / width) a) [
      | inl same ↦ subst (λ p. cond p (bit_or (word_at width old a (i % width)) (word_at width old b (i % width))) (word_at width old (i / width) (i % width)) < 2 ^ 64) (sym (eq-eqb (i / width) a same))
          (or_lt 64 (word_at width old a (i % width)) (word_at width old b (i % width)) (packed.small (a * width + i % width)) (packed.small (b * width + i % width)))
      | inr other ↦ subst (λ p. cond p (bit_or (word_at width old a (i % width)) (word_at width old b (i % width))) (word_at width old (i / width) (i % width)) < 2 ^ 64) (sym (ne_eqb (i / width) a other))
          (packed.small (i / width * width + i % width))
    ])

-- where both fail, neither one nor the other holds
both_false : (p q r : Bool) → p ≡ false → q ≡ false → (p || (r && q)) ≡ false
both_false p q r e f = ap₂ (λ p q. p || q) e (and_right r q f)

-- a packed table whose row a was united with row b is packed
pub united_packed : (n : ℕ) (old new : List ℕ) (a b : ℕ) → b < n → IsPacked n old → length new ≡ length old
    → ((x k : ℕ) → k < words_per_row n → word_at (words_per_row n) new x k ≡ united (words_per_row n) old a b x k) → IsPacked n new
united_packed n old new a b second packed long is = record {
  whole = long ∙ packed.whole;
  small = united_small n old new a b packed is;
  spare = λ x y row past column.
      united_bit (words_per_row n) old new a b x y (is x (y / 64) column)
      ∙ both_false (bit (words_per_row n) old x y) (bit (words_per_row n) old b y) (eqb x a) (packed.spare x y row past column) (packed.spare b y second past column);
}

-- words that are united up to the width are the united row
pub united_words : (n : ℕ) (words old new : List ℕ) (width a b : ℕ) → width ≡ words_per_row n → old ≡ words
    → ((x k : ℕ) → k < width → word_at width new x k ≡ united width old a b x k) → (x k : ℕ) → k < words_per_row n
    → word_at (words_per_row n) new x k ≡ united (words_per_row n) words a b x k
united_words n words old new width a b e f is x k h =
    ap (λ w. word_at w new x k) (sym e) ∙ is x k (subst (λ w. k < w) (sym e) h) ∙ ap₂ (λ w ws. united w ws a b x k) e f
