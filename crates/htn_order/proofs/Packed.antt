-- Tables in words.
use Rattle.std.proofs.Common.{◌≡◌, ℕ, ◌+◌, ◌*◌, ◌/◌, ◌%◌, ◌^◌, ◌<◌, Bool, true, false, cond, eqb, ◌||◌, ◌&&◌, inl, inr, List, [], length, get_or, set, map, refl, sym, ap, ap₂, ◌∙◌, subst, arith, bit_or, get_or-set_same, get_or-set_other}
use Rattle.std.proofs.lemmas.Bool.{cases_lt, cases_eq, eq-eqb, ne_eqb, eqb-true, and_parts, and_right}
use Rattle.std.proofs.lemmas.Nat.{same_from_place, mul-add-lt, div-add-mod', mod_below, div_below, or_lt}
use Rattle.std.proofs.lemmas.Nat.Bits.{same_from_bits_below}
use Rattle.std.proofs.lemmas.List.FromFn.{fill_by_all}
use Rattle.std.proofs.lemmas.List.{length-set}
use Rattle.std.specs.List.{range_with_len}
use Rattle.htn_model.specs.Problem.{is_before}
use Rattle.htn_model.proofs.Splices.{table_within, table_past_right}
use Rattle.htn_order.specs.BitRows.{IsPacked, bit, is_set, number_of, rows_of, united, with_bit, word_at, word_of, words_of, words_per_row}
use Rattle.htn_order.proofs.Tables.{table_size, within, more_entries}
use Rattle.htn_order.proofs.Bits.{is_set-or, is_set-with, bit_from_set, is_set-number_of, number_of_lt}

-- the word of a position is one of its row's
pub below_width : (n y : ℕ) → y < n → y / 64 < words_per_row n
below_width n y h = omega arith

-- a word of a row is one of the table's
pub place_lt : (n width a k : ℕ) (words : List ℕ) → length words ≡ n * width → a < n → k < width → a * width + k < length words
place_lt n width a k words e h g = subst (λ m. a * width + k < m) (sym e) (subst (λ m. a * width + k < m) (let c : width * n ≡ n * width = omega arith in c) (mul-add-lt a width k n h g))

-- ## A word is written

-- a word that was set has the value
pub word_at-set_same : (width : ℕ) (words : List ℕ) (a k v : ℕ) → a * width + k < length words → word_at width (set words (a * width + k) v) a k ≡ v
word_at-set_same width words a k v h = get_or-set_same words (a * width + k) v 0 h

-- each other word stays
pub word_at-set_other : (width : ℕ) (words : List ℕ) (a k v x j : ℕ) → k < width → j < width → ((x ≡ a) × (j ≡ k) → ⊥)
    → word_at width (set words (a * width + k) v) x j ≡ word_at width words x j
word_at-set_other width words a k v x j h g other = get_or-set_other words (a * width + k) (x * width + j) v 0 (λ e. other (same_from_place x j a k width g h e))

-- with what fails, either is the other
or_false : (p : Bool) → (p || false) ≡ p
or_false true = refl
or_false false = refl

-- ## A bit is set

-- a bit that is put into its word is set, and each other is as before
pub put_bit : (width : ℕ) (words : List ℕ) (a b x y : ℕ) → b / 64 < width → y / 64 < width → a * width + b / 64 < length words
    → bit width (set words (a * width + b / 64) (bit_or (word_at width words a (b / 64)) (1 * 2 ^ (b % 64) % 2 ^ 64))) x y ≡ (bit width words x y || (eqb x a && eqb y b))
put_bit width words a b x y h g fits = elim (cases_eq x a) [
  | inr other ↦ ap (λ w. is_set w (y % 64)) (word_at-set_other width words a (b / 64) _ x (y / 64) h g (λ e. other e.0))
      ∙ sym (ap (λ p. bit width words x y || (p && eqb y b)) (ne_eqb x a other) ∙ or_false (bit width words x y))
  | inl same ↦ elim (cases_eq (y / 64) (b / 64)) [
    | inr apart ↦ (let no_bit : y ≡ b → ⊥ = λ e. apart (ap (λ m. m / 64) e) in
        ap (λ w. is_set w (y % 64)) (word_at-set_other width words a (b / 64) _ x (y / 64) h g (λ e. apart e.1))
        ∙ sym (ap₂ (λ p q. bit width words x y || (p && q)) (eq-eqb x a same) (ne_eqb y b no_bit) ∙ or_false (bit width words x y)))
    | inl word ↦
        ap₂ (λ u k. is_set (word_at width (set words (a * width + b / 64) (bit_or (word_at width words a (b / 64)) (1 * 2 ^ (b % 64) % 2 ^ 64))) u k) (y % 64)) same word
        ∙ ap (λ w. is_set w (y % 64)) (word_at-set_same width words a (b / 64) _ fits)
        ∙ is_set-with (word_at width words a (b / 64)) (b % 64) (y % 64) (omega arith)
        ∙ ap₂ (λ w p. is_set w (y % 64) || p) (sym (ap₂ (word_at width words) same word)) (bits_alike word)
        ∙ ap (λ p. bit width words x y || (p && eqb y b)) (sym (eq-eqb x a same))
  ]
]
  where
    bits_alike : y / 64 ≡ b / 64 → eqb (y % 64) (b % 64) ≡ eqb y b
    bits_alike e = elim (cases_eq y b) [
      | inl same ↦ eq-eqb (y % 64) (b % 64) (ap (λ m. m % 64) same) ∙ sym (eq-eqb y b same)
      | inr other ↦ ne_eqb (y % 64) (b % 64) (λ f. other (let p = div-add-mod' y 64 in let q = div-add-mod' b 64 in omega arith)) ∙ sym (ne_eqb y b other)
    ]

-- two tests of equality that hold give both
both : (a b x y : ℕ) → (eqb x a && eqb y b) ≡ true → (x ≡ a) × (y ≡ b)
both a b x y m = let parts = and_parts (eqb x a) (eqb y b) m in (eqb-true x a parts.0, eqb-true y b parts.1)

-- with a bit put, the table has that entry more
pub put_entries : (n : ℕ) (words : List ℕ) (a b : ℕ) → length words ≡ n * words_per_row n → a < n → b < n → (x y : ℕ)
    → is_before (rows_of n (with_bit (words_per_row n) words a b)) x y ≡ (is_before (rows_of n words) x y || (eqb x a && eqb y b))
put_entries n words a b long first second =
    more_entries n (bit (words_per_row n) words) (bit (words_per_row n) (with_bit (words_per_row n) words a b)) (λ x y. eqb x a && eqb y b)
    (λ x y low under. put_bit (words_per_row n) words a b x y (below_width n b second) (below_width n y under) (place_lt n (words_per_row n) a (b / 64) words long first (below_width n b second)))
    (λ x y m. let e = both a b x y m in (subst (λ z. z < n) (sym e.0) first, subst (λ z. z < n) (sym e.1) second))

-- ## A row is added to another

-- a bit of a united row is set where it was, or where it is in the other row
pub united_bit : (width : ℕ) (words new : List ℕ) (a b x y : ℕ) → word_at width new x (y / 64) ≡ united width words a b x (y / 64)
    → bit width new x y ≡ (bit width words x y || (eqb x a && bit width words b y))
united_bit width words new a b x y is = elim (cases_eq x a) [
  | inl same ↦ ap (λ w. is_set w (y % 64)) (is ∙ ap (λ p. cond p (bit_or (word_at width words a (y / 64)) (word_at width words b (y / 64))) (word_at width words x (y / 64))) (eq-eqb x a same))
      ∙ is_set-or (word_at width words a (y / 64)) (word_at width words b (y / 64)) (y % 64)
      ∙ ap₂ (λ u p. bit width words u y || (p && bit width words b y)) (sym same) (sym (eq-eqb x a same))
  | inr other ↦ ap (λ w. is_set w (y % 64)) (is ∙ ap (λ p. cond p (bit_or (word_at width words a (y / 64)) (word_at width words b (y / 64))) (word_at width words x (y / 64))) (ne_eqb x a other))
      ∙ sym (ap (λ p. bit width words x y || (p && bit width words b y)) (ne_eqb x a other) ∙ or_false (bit width words x y))
]

-- with rows united, the first has the entries of the second too
pub united_entries : (n : ℕ) (words new : List ℕ) (a b : ℕ) → a < n → b < n
    → ((x k : ℕ) → k < words_per_row n → word_at (words_per_row n) new x k ≡ united (words_per_row n) words a b x k) → (x y : ℕ)
    → is_before (rows_of n new) x y ≡ (is_before (rows_of n words) x y || (eqb x a && is_before (rows_of n words) b y))
united_entries n words new a b first second is =
    let width = words_per_row n in
    more_entries n (bit width words) (bit width new) (λ x y. eqb x a && is_before (rows_of n words) b y)
    (λ x y low under. united_bit width words new a b x y (is x (y / 64) (below_width n y under))
    ∙ ap (λ p. bit width words x y || (eqb x a && p)) (sym (table_within n (bit width words) b y second under)))
    (λ x y m. let parts = and_parts (eqb x a) (is_before (rows_of n words) b y) m in
    (subst (λ z. z < n) (sym (eqb-true x a parts.0)) first, (within n (bit width words) b y parts.1).1))

-- ## A table determines its words

-- a bit of a word is set where its row's position is before the bit's
pub row_bit : (n : ℕ) (words : List ℕ) → IsPacked n words → (i a k j : ℕ) → a < n → k < words_per_row n → a * words_per_row n + k ≡ i → j < 64
    → is_set (get_or words i 0) j ≡ is_before (rows_of n words) a (64 * k + j)
row_bit n words packed i a k j row column place low =
    let width = words_per_row n in
    let y = 64 * k + j in
    let word : y / 64 ≡ k = omega arith in
    let offset : y % 64 ≡ j = omega arith in
    let here : is_set (get_or words i 0) j ≡ bit width words a y = ap₂ (λ w o. is_set w o) (ap (λ p. get_or words p 0) (sym (ap (λ m. a * width + m) word ∙ place))) (sym offset) in
    elim (cases_lt y n) [
      | inl under ↦ here ∙ sym (table_within n (bit width words) a y row under)
      | inr past ↦ here ∙ packed.spare a y row past (subst (λ m. m < width) (sym word) column) ∙ sym (table_past_right n (bit width words) a y past)
    ]

-- each word of the bits is that of its table
word_from_table : (n : ℕ) (words : List ℕ) → IsPacked n words → (i : ℕ) → i < n * words_per_row n → get_or words i 0 ≡ word_of (rows_of n words) i
word_from_table n words packed i h =
    let width = words_per_row n in
    let a = i / width in
    let k = i % width in
    let positive : 0 < width = omega arith in
    let row : a < n = div_below i width n positive h in
    let column : k < width = mod_below i width positive in
    let size : length (rows_of n words) ≡ n = table_size n (bit width words) in
    let place : a * width + k ≡ i = div-add-mod' i width in
    let test : ℕ → Bool = λ j. is_before (rows_of n words) a (64 * k + j) in
    let is : get_or words i 0 ≡ number_of test 64 =
    same_from_bits_below 64 (get_or words i 0) (number_of test 64) (packed.small i) (number_of_lt test 64)
    (λ j low. bit_from_set (get_or words i 0) (number_of test 64) j j
    (row_bit n words packed i a k j row column place low ∙ sym (is_set-number_of test 64 j low))) in
    is ∙ ap (λ m. number_of (λ j. get_or (get_or (rows_of n words) (i / words_per_row m) []) (64 * (i % words_per_row m) + j) false) 64) (sym size)

-- the words are those of their table
pub words_from_table : (n : ℕ) (words : List ℕ) → IsPacked n words → words ≡ words_of (rows_of n words)
words_from_table n words packed =
    let size : length (rows_of n words) ≡ n = table_size n (bit (words_per_row n) words) in
    fill_by_all (word_of (rows_of n words)) words (n * words_per_row n) 0 packed.whole (λ i low. word_from_table n words packed i low)
    ∙ ap (λ m. map (word_of (rows_of n words)) (range_with_len 0 (m * words_per_row m))) (sym size)

-- two packed tables that are equal have the same words
pub same_words : (n m : ℕ) (words others : List ℕ) → IsPacked n words → IsPacked m others → rows_of n words ≡ rows_of m others → (n ≡ m) × (words ≡ others)
same_words n m words others p q e = (
  sym (table_size n (bit (words_per_row n) words)) ∙ ap length e ∙ table_size m (bit (words_per_row m) others),
  words_from_table n words p ∙ ap words_of e ∙ sym (words_from_table m others q),
)

-- a packed table with one bit more is packed
pub put_packed : (n : ℕ) (words : List ℕ) (a b : ℕ) → IsPacked n words → a < n → b < n → IsPacked n (with_bit (words_per_row n) words a b)
put_packed n words a b packed first second =
    let width = words_per_row n in
    let at = a * width + b / 64 in
    let fits : at < length words = place_lt n width a (b / 64) words packed.whole first (below_width n b second) in
    record {
      whole = length-set words at _ ∙ packed.whole;
      small = λ i. elim (cases_eq i at) [
        | inl same ↦ subst (λ w. w < 2 ^ 64) (sym (ap (λ p. get_or (with_bit width words a b) p 0) same ∙ get_or-set_same words at _ 0 fits))
            (or_lt 64 (word_at width words a (b / 64)) (1 * 2 ^ (b % 64) % 2 ^ 64) (packed.small at) (mod_below (1 * 2 ^ (b % 64)) (2 ^ 64) (omega arith)))
        | inr other ↦ subst (λ w. w < 2 ^ 64) (sym (get_or-set_other words at i _ 0 other)) (packed.small i)
      ];
      spare = λ x y row past column.
          put_bit width words a b x y (below_width n b second) column fits
          ∙ ap₂ (λ p q. p || q) (packed.spare x y row past column) (and_right (eqb x a) (eqb y b) (ne_eqb y b (λ e. omega arith)));
    }
