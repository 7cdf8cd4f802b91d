-- Sets of numbers, bit by bit.
use Rattle.std.proofs.Common.{◌≡◌, ◌≢◌, ℕ, zero, suc, ◌+◌, ◌*◌, ◌/◌, ◌%◌, ◌^◌, ◌<◌, ◌≤◌, Bool, true, false, cond, eqb, ltb, min, ◌||◌, inl, inr, ⊎_elim, List, length, get_or, set, refl, sym, ap, ap₂, ◌∙◌, arith, bit_or, bit_and, get_or-set_same, get_or-set_other}
use Rattle.std.specs.Int.{bit_at}
use Rattle.std.specs.Int.Bits.{and_lt}
use Rattle.std.proofs.lemmas.Bool.{cases_lt, cases_eq, lt-ltb, le-ltb, eq-eqb, ne_eqb, eqb-true, true≢false}
use Rattle.std.proofs.lemmas.Nat.{div-add-mod', or_lt}
use Rattle.std.proofs.lemmas.Nat.Bits.{same_from_bits_below, bit_at_and, bit_at-lt, bit_at_lowest, bit_at-suc, bit_at-zero}
use Rattle.std.proofs.lemmas.List.{get_or_past}
use Rattle.htn_order.specs.BitRows.{is_set}
use Rattle.htn_order.proofs.Bits.{is_set-or, is_set-with, is_set-zero, bit_from_set}
use Rattle.hddl_names.specs.NumberSets.{has}

-- ## Words that are the same, or have more

-- sets with the same words have the same numbers
pub same_has : (vs ws : List ℕ) → ((k : ℕ) → get_or vs k 0 ≡ get_or ws k 0) → (x : ℕ) → has vs x ≡ has ws x
same_has vs ws same x = ap (λ w. is_set w (x % 64)) (same (x / 64))

-- a set whose words are those of two together has the numbers of both
pub more_has : (new old other : List ℕ) → ((k : ℕ) → get_or new k 0 ≡ bit_or (get_or old k 0) (get_or other k 0)) → (x : ℕ) → has new x ≡ (has old x || has other x)
more_has new old other is x = ap (λ w. is_set w (x % 64)) (is (x / 64)) ∙ is_set-or (get_or old (x / 64) 0) (get_or other (x / 64) 0) (x % 64)

-- with what fails, either is the other
or_false : (p : Bool) → (p || false) ≡ p
or_false true = refl
or_false false = refl

-- a number is put in
pub put_has : (words : List ℕ) (b x : ℕ) → b / 64 < length words
    → has (set words (b / 64) (bit_or (get_or words (b / 64) 0) (1 * 2 ^ (b % 64) % 2 ^ 64))) x ≡ (has words x || eqb x b)
put_has words b x fits = elim (cases_eq (x / 64) (b / 64)) [
  | inl word ↦
      ap (λ k. is_set (get_or (set words (b / 64) (bit_or (get_or words (b / 64) 0) (1 * 2 ^ (b % 64) % 2 ^ 64))) k 0) (x % 64)) word
      ∙ ap (λ w. is_set w (x % 64)) (get_or-set_same words (b / 64) _ 0 fits)
      ∙ is_set-with (get_or words (b / 64) 0) (b % 64) (x % 64) (omega arith)
      ∙ ap₂ (λ k p. is_set (get_or words k 0) (x % 64) || p) (sym word) (alike word)
  | inr apart ↦
      (let other : x ≡ b → ⊥ = λ e. apart (ap (λ m. m / 64) e) in
      ap (λ w. is_set w (x % 64)) (get_or-set_other words (b / 64) (x / 64) _ 0 apart)
      ∙ sym (ap (λ p. has words x || p) (ne_eqb x b other) ∙ or_false (has words x)))
]
  where
    alike : x / 64 ≡ b / 64 → eqb (x % 64) (b % 64) ≡ eqb x b
    alike e = elim (cases_eq x b) [
      | inl same ↦ eq-eqb (x % 64) (b % 64) (ap (λ m. m % 64) same) ∙ sym (eq-eqb x b same)
      | inr other ↦ ne_eqb (x % 64) (b % 64) (λ f. other (let p = div-add-mod' x 64 in let q = div-add-mod' b 64 in omega arith)) ∙ sym (ne_eqb x b other)
    ]

-- ## Sets within others

-- the number of a bit
pub has_at : (words : List ℕ) (k i : ℕ) → i < 64 → has words (k * 64 + i) ≡ is_set (get_or words k 0) i
has_at words k i lt =
    let word : (k * 64 + i) / 64 ≡ k = omega arith in
    let bit : (k * 64 + i) % 64 ≡ i = omega arith in
    ap₂ (λ k i. is_set (get_or words k 0) i) word bit

-- past its words a set has no number
pub past_has : (words : List ℕ) (x : ℕ) → length words ≤ x / 64 → has words x ≡ false
past_has words x past = ap (λ w. is_set w (x % 64)) (get_or_past words (x / 64) 0 past) ∙ is_set-zero (x % 64)

-- a set each of whose words is within another's is within it
pub all_within : (vs ws : List ℕ) (n : ℕ) → length vs ≤ n → ((k : ℕ) → k < n → bit_or (get_or vs k 0) (get_or ws k 0) ≡ get_or ws k 0)
    → (x : ℕ) → has vs x ≡ true → has ws x ≡ true
all_within vs ws n all words x h =
    ⊎_elim
    (λ lt. ap (λ w. is_set w (x % 64)) (sym (words (x / 64) lt)) ∙ is_set-or (get_or vs (x / 64) 0) (get_or ws (x / 64) 0) (x % 64) ∙ ap (λ p. p || has ws x) h)
    (λ past. absurd (true≢false (sym h ∙ past_has vs x (omega (arith, all, past)))))
    (cases_lt (x / 64) n)

-- a set within another has each word within the other's
pub within_words : (vs ws : List ℕ) (k : ℕ) → get_or vs k 0 < 2 ^ 64 → get_or ws k 0 < 2 ^ 64 → ((x : ℕ) → has vs x ≡ true → has ws x ≡ true) → bit_or (get_or vs k 0) (get_or ws k 0) ≡ get_or ws k 0
within_words vs ws k small_v small_w within =
    same_from_bits_below 64 (bit_or (get_or vs k 0) (get_or ws k 0)) (get_or ws k 0) (or_lt 64 (get_or vs k 0) (get_or ws k 0) small_v small_w) small_w
    (λ i lt. bit_from_set (bit_or (get_or vs k 0) (get_or ws k 0)) (get_or ws k 0) i i (is_set-or (get_or vs k 0) (get_or ws k 0) i ∙ by i lt (is_set (get_or vs k 0) i) refl))
  where
    by : (i : ℕ) → i < 64 → (b : Bool) → is_set (get_or vs k 0) i ≡ b → (is_set (get_or vs k 0) i || is_set (get_or ws k 0) i) ≡ is_set (get_or ws k 0) i
    by i lt true e = ap (λ p. p || is_set (get_or ws k 0) i) e ∙ sym (sym (has_at ws k i lt) ∙ within (k * 64 + i) (has_at vs k i lt ∙ e))
    by i lt false e = ap (λ p. p || is_set (get_or ws k 0) i) e

-- ## Sets with a number in common

-- a number that isn't 0 has a bit
pub some_bit : (w n : ℕ) → n < 2 ^ w → (n ≡ 0 → ⊥) → (i : ℕ) × (i < w) × (bit_at n i ≡ 1)
some_bit zero n small some = absurd (some (omega (arith, small)))
some_bit (suc w) n small some = elim (cases_eq (n % 2) 1) [
  | inl odd ↦ (0, omega arith, bit_at_lowest n ∙ odd)
  | inr even ↦
      (let half : n / 2 < 2 ^ w = halved w n small in
      let more : n / 2 ≡ 0 → ⊥ = λ e. some (let r : n % 2 < 2 = omega arith in let d = div-add-mod' n 2 in let odd : n % 2 ≢ 1 = even in omega (arith, r, d, odd, e)) in
      let found = some_bit w (n / 2) half more in (suc found.0, omega (arith, found.1), bit_at-suc n found.0 ∙ found.2))
]
  where
    halved : (w n : ℕ) → n < 2 ^ suc w → n / 2 < 2 ^ w
    halved w n h = let twice : 2 ^ suc w ≡ 2 * 2 ^ w = omega arith in omega (arith, h, twice)

-- where the lesser of two bits is 1, both are
both_one : (a b : ℕ) → a < 2 → b < 2 → min a b ≡ 1 → (a ≡ 1) × (b ≡ 1)
both_one a b small_a small_b is = (omega (arith, small_a, small_b, is), omega (arith, small_a, small_b, is))

-- words with a common bit have a common number
pub words_meet : (vs ws : List ℕ) (k : ℕ) → get_or vs k 0 < 2 ^ 64 → get_or ws k 0 < 2 ^ 64 → (bit_and (get_or vs k 0) (get_or ws k 0) ≡ 0 → ⊥)
    → (x : ℕ) × (has vs x ≡ true) × (has ws x ≡ true)
words_meet vs ws k small_v small_w some =
    let bit = some_bit 64 (bit_and (get_or vs k 0) (get_or ws k 0)) (and_lt 64 (get_or vs k 0) (get_or ws k 0) small_v small_w) some in
    let both = both_one (bit_at (get_or vs k 0) bit.0) (bit_at (get_or ws k 0) bit.0) (bit_at-lt (get_or vs k 0) bit.0) (bit_at-lt (get_or ws k 0) bit.0)
    (sym (bit_at_and (get_or vs k 0) (get_or ws k 0) bit.0) ∙ bit.2) in
    (k * 64 + bit.0, has_at vs k bit.0 bit.1 ∙ ap (λ b. eqb b 1) both.0, has_at ws k bit.0 bit.1 ∙ ap (λ b. eqb b 1) both.1)

-- sets without a common bit have no common number
pub none_meet : (vs ws : List ℕ) (n : ℕ) → length vs ≤ n → ((k : ℕ) → k < n → bit_and (get_or vs k 0) (get_or ws k 0) ≡ 0)
    → (x : ℕ) → has vs x ≡ true → has ws x ≡ true → ⊥
none_meet vs ws n all none x h g =
    ⊎_elim
    (λ lt. let one : bit_at (get_or vs (x / 64) 0) (x % 64) ≡ 1 = eqb-true (bit_at (get_or vs (x / 64) 0) (x % 64)) 1 h in
    let two : bit_at (get_or ws (x / 64) 0) (x % 64) ≡ 1 = eqb-true (bit_at (get_or ws (x / 64) 0) (x % 64)) 1 g in
    let e : 0 ≡ 1 = sym (bit_at-zero (x % 64)) ∙ ap (λ w. bit_at w (x % 64)) (sym (none (x / 64) lt)) ∙ bit_at_and (get_or vs (x / 64) 0) (get_or ws (x / 64) 0) (x % 64) ∙ ap₂ min one two in
    omega (arith, e))
    (λ past. true≢false (sym h ∙ past_has vs x (omega (arith, all, past))))
    (cases_lt (x / 64) n)

-- ## Words that are added one after another

-- the first k words have the bits of the others too
abbrev pub AddedUpTo : List ℕ → List ℕ → ℕ → List ℕ → Type 0
AddedUpTo old other k words = (j : ℕ) → get_or words j 0 ≡ cond (ltb j k) (bit_or (get_or old j 0) (get_or other j 0)) (get_or old j 0)

-- before the first word nothing is added
pub added_start : (old other : List ℕ) → AddedUpTo old other 0 old
added_start old other j = sym (ap (λ p. cond p (bit_or (get_or old j 0) (get_or other j 0)) (get_or old j 0)) (le-ltb j 0 (omega arith)))

-- one word more is added
pub added_step : (old other words : List ℕ) (k v more : ℕ) → k < length words → v ≡ get_or words k 0 → more ≡ get_or other k 0 → AddedUpTo old other k words
    → AddedUpTo old other (k + 1) (set words k (bit_or v more))
added_step old other words k v more fits is is_more so_far j = elim (cases_eq j k) [
  | inl here ↦
      ap (λ j. get_or (set words k (bit_or v more)) j 0) here
      ∙ get_or-set_same words k (bit_or v more) 0 fits
      ∙ ap₂ bit_or (is ∙ so_far k ∙ ap (λ p. cond p (bit_or (get_or old k 0) (get_or other k 0)) (get_or old k 0)) (le-ltb k k (omega arith))) is_more
      ∙ sym (ap (λ p. cond p (bit_or (get_or old j 0) (get_or other j 0)) (get_or old j 0)) (lt-ltb j (k + 1) (omega arith)) ∙ ap (λ j. bit_or (get_or old j 0) (get_or other j 0)) here)
  | inr other_place ↦
      get_or-set_other words k j (bit_or v more) 0 other_place ∙ so_far j
      ∙ ap (λ p. cond p (bit_or (get_or old j 0) (get_or other j 0)) (get_or old j 0)) (elim (cases_lt j k) [
        | inl before ↦ lt-ltb j k before ∙ sym (lt-ltb j (k + 1) (omega arith))
        | inr after ↦ (let apart : j ≢ k = other_place in le-ltb j k after ∙ sym (le-ltb j (k + 1) (omega arith)))
      ])
]

-- at the end the numbers of both are there
pub added_end : (old other words : List ℕ) (k : ℕ) → length other ≤ k → AddedUpTo old other k words → (x : ℕ) → has words x ≡ (has old x || has other x)
added_end old other words k all so_far x =
    ⊎_elim
    (λ lt. ap (λ w. is_set w (x % 64)) (so_far (x / 64) ∙ ap (λ p. cond p (bit_or (get_or old (x / 64) 0) (get_or other (x / 64) 0)) (get_or old (x / 64) 0)) (lt-ltb (x / 64) k lt))
    ∙ is_set-or (get_or old (x / 64) 0) (get_or other (x / 64) 0) (x % 64))
    (λ past. ap (λ w. is_set w (x % 64)) (so_far (x / 64) ∙ ap (λ p. cond p (bit_or (get_or old (x / 64) 0) (get_or other (x / 64) 0)) (get_or old (x / 64) 0)) (le-ltb (x / 64) k past))
    ∙ sym (ap (λ p. has old x || p) (past_has other x (omega (arith, all, past))) ∙ or_false (has old x)))
    (cases_lt (x / 64) k)
