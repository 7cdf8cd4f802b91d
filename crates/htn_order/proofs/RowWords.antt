-- Rows in one word each.
use Rattle.std.proofs.Common.{◌≡◌, ℕ, ◌+◌, ◌-◌, ◌*◌, ◌/◌, ◌%◌, ◌^◌, ◌<◌, ◌≤◌, Bool, true, false, cond, eqb, ltb, ◌||◌, ◌&&◌, ◌++◌, ◌∷◌, [], ◌≢◌, max, inl, inr, List, length, get_or, refl, sym, ap, ap₂, ◌∙◌, subst, arith, bit_or, get_or-set_same, get_or-set_other}
use Rattle.std.specs.Int.{bit_at}
use Rattle.std.proofs.lemmas.Bool.{both_ways, cases_Bool, cases_lt, cases_eq, eq-eqb, ne_eqb, lt-ltb, le-ltb, eqb-true, ltb-true, and_parts, and_right}
use Rattle.std.proofs.lemmas.Nat.{mod_below, or_lt, pow_pos}
use Rattle.std.proofs.lemmas.Nat.Bits.{bit_at-lt, bit_at_above, bit_at_or}
use Rattle.std.proofs.lemmas.List.{length-set}
use Rattle.std.proofs.Math.Nat.{pow-le-pow_right}
use Rattle.htn_model.specs.Problem.{Order, is_before, IsSquare}
use Rattle.htn_model.specs.Choice.{is_empty, passing}
use Rattle.htn_model.specs.Machine.{origin, replaced_order}
use Rattle.htn_model.proofs.Splices.{table_within, table_past_right, origin_below, origin_inside, origin_above, square_past_right}
use Rattle.htn_order.specs.BitRows.{IsPacked, bit, is_set, rows_of, words_per_row}
use Rattle.htn_order.specs.Words.{is_set_spliced, with_bits}
use Rattle.htn_order.proofs.Bits.{is_set-or}
use Rattle.htn_order.proofs.Free.{one_fails, one_passes}
use Rattle.htn_order.proofs.Tables.{and_false, more_entries, or_false}
use Rattle.htn_order.proofs.WordBits.{is_set-mod}

-- ## A table whose rows are one word each

-- a row of fewer than 64 positions is one word
width_one : (n : ℕ) → n < 64 → words_per_row n ≡ 1
width_one n h = omega arith

-- as many words as positions
pub one_each : (n : ℕ) (words : List ℕ) → n < 64 → IsPacked n words → length words ≡ n
one_each n words h packed = packed.whole ∙ ap (λ w. n * w) (width_one n h) ∙ (let e : n * 1 ≡ n = omega arith in e)

-- a bit of such a table is one of its row's word
small_bit : (n : ℕ) (words : List ℕ) (a y : ℕ) → n < 64 → y < 64 → bit (words_per_row n) words a y ≡ is_set (get_or words a 0) y
small_bit n words a y h low =
    let place : a * words_per_row n + y / 64 ≡ a = ap (λ w. a * w + y / 64) (width_one n h) ∙ (let e : a * 1 + y / 64 ≡ a = omega arith in e) in
    let offset : y % 64 ≡ y = omega arith in
    ap₂ (λ k i. is_set (get_or words k 0) i) place offset

-- past the last position no bit of a row's word is set
spare_bit : (n : ℕ) (words : List ℕ) (a b : ℕ) → n < 64 → a < n → n ≤ b → IsPacked n words → is_set (get_or words a 0) b ≡ false
spare_bit n words a b h row past packed = elim (cases_lt b 64) [
  | inl low ↦ sym (small_bit n words a b h low) ∙ packed.spare a b row past (omega arith)
  | inr high ↦ ap (λ v. eqb v 1) (bit_at_above (get_or words a 0) 64 b (packed.small a) high)
]

-- the word of a row has a bit for each position that its own is before
pub word_row : (n : ℕ) (words : List ℕ) (a b : ℕ) → n < 64 → a < n → IsPacked n words → is_set (get_or words a 0) b ≡ is_before (rows_of n words) a b
word_row n words a b h row packed = elim (cases_lt b n) [
  | inl low ↦ sym (small_bit n words a b h (omega arith)) ∙ sym (table_within n (bit (words_per_row n) words) a b row low)
  | inr past ↦ spare_bit n words a b h row past packed ∙ sym (table_past_right n (bit (words_per_row n) words) a b past)
]

-- ## A row's word is written

-- a word has the bits that it had and, where another was added to it, that one's
with_bits_word : (words : List ℕ) (a w x y : ℕ) → a < length words
    → is_set (get_or (with_bits words a w) x 0) y ≡ (is_set (get_or words x 0) y || (eqb x a && is_set w y))
with_bits_word words a w x y fits = elim (cases_eq x a) [
  | inl same ↦
      ap (λ u. is_set (get_or (with_bits words a w) u 0) y) same
      ∙ ap (λ v. is_set v y) (get_or-set_same words a (bit_or (get_or words a 0) w) 0 fits)
      ∙ is_set-or (get_or words a 0) w y
      ∙ ap (λ u. is_set (get_or words u 0) y || is_set w y) (sym same)
      ∙ sym (ap (λ p. is_set (get_or words x 0) y || (p && is_set w y)) (eq-eqb x a same))
  | inr other ↦
      ap (λ v. is_set v y) (get_or-set_other words a x (bit_or (get_or words a 0) w) 0 other)
      ∙ sym (ap (λ p. is_set (get_or words x 0) y || (p && is_set w y)) (ne_eqb x a other) ∙ or_false (is_set (get_or words x 0) y))
]

-- a bit is set where it was, or where it is in the word that was added to its row
with_bits_bit : (n : ℕ) (words : List ℕ) (a w x y : ℕ) → n < 64 → y < 64 → a < length words
    → bit (words_per_row n) (with_bits words a w) x y ≡ (bit (words_per_row n) words x y || (eqb x a && is_set w y))
with_bits_bit n words a w x y h low fits =
    small_bit n (with_bits words a w) x y h low
    ∙ with_bits_word words a w x y fits
    ∙ ap (λ p. p || (eqb x a && is_set w y)) (sym (small_bit n words x y h low))

-- a word of the lowest n bits fits 64 bits
low_word : (n word : ℕ) → n < 64 → word % 2 ^ n < 2 ^ 64
low_word n word h =
    let less = mod_below word (2 ^ n) (pow_pos n) in
    let most : 2 ^ n ≤ 2 ^ 64 = pow-le-pow_right {n = 2} (omega arith) {i = n} {j = 64} (omega arith) in omega arith

-- a table with a word's lowest bits added to a row is packed
pub with_bits_packed : (n : ℕ) (words : List ℕ) (a word : ℕ) → n < 64 → a < n → IsPacked n words → IsPacked n (with_bits words a (word % 2 ^ n))
with_bits_packed n words a word h row packed =
    let fits : a < length words = (let e = one_each n words h packed in omega arith) in
    record {
      whole = length-set words a _ ∙ packed.whole;
      small = λ i. elim (cases_eq i a) [
        | inl same ↦ subst (λ w. w < 2 ^ 64) (sym (ap (λ p. get_or (with_bits words a (word % 2 ^ n)) p 0) same ∙ get_or-set_same words a _ 0 fits))
            (or_lt 64 (get_or words a 0) (word % 2 ^ n) (packed.small a) (low_word n word h))
        | inr other ↦ subst (λ w. w < 2 ^ 64) (sym (get_or-set_other words a i _ 0 other)) (packed.small i)
      ];
      spare = λ x y low past column.
          with_bits_bit n words a (word % 2 ^ n) x y h (let e = width_one n h in omega arith) fits
          ∙ ap₂ (λ p q. p || q) (packed.spare x y low past column)
          (and_right (eqb x a) (is_set (word % 2 ^ n) y) (is_set-mod word n y ∙ ap (λ p. p && is_set word y) (le-ltb y n past)));
    }

-- with a word's lowest bits added to a row, the table has those entries more
pub with_bits_entries : (n : ℕ) (words : List ℕ) (a word : ℕ) → n < 64 → a < n → IsPacked n words → (x y : ℕ)
    → is_before (rows_of n (with_bits words a (word % 2 ^ n))) x y ≡ (is_before (rows_of n words) x y || (eqb x a && (ltb y n && is_set word y)))
with_bits_entries n words a word h row packed =
    more_entries n (bit (words_per_row n) words) (bit (words_per_row n) (with_bits words a (word % 2 ^ n))) (λ x y. eqb x a && (ltb y n && is_set word y))
    (λ x y low under.
    with_bits_bit n words a (word % 2 ^ n) x y h (omega arith) (let e = one_each n words h packed in omega arith)
    ∙ ap (λ p. bit (words_per_row n) words x y || (eqb x a && p)) (is_set-mod word n y))
    (λ x y m. let parts = and_parts (eqb x a) (ltb y n && is_set word y) m in
    (subst (λ z. z < n) (sym (eqb-true x a parts.0)) row, ltb-true y n (and_parts (ltb y n) (is_set word y) parts.1).0))

-- ## The row of a replaced order

-- together with what holds, either is the other
pub and_true : (p : Bool) → (p && true) ≡ p
and_true true = refl
and_true false = refl

module _ (order : Order) (i m : ℕ) (inner : Order) where
  -- before another outside as what it stood for is
  read_out : (a b : ℕ) → (origin i m b ≡ i → ⊥) → replaced_order order i m inner a b ≡ is_before order (origin i m a) (origin i m b)
  read_out a b out =
      ap (λ q. cond (eqb (origin i m a) i && q) (is_before inner (a - i) (b - i)) (is_before order (origin i m a) (origin i m b))) (ne_eqb (origin i m b) i out)
      ∙ ap (λ p. cond p (is_before inner (a - i) (b - i)) (is_before order (origin i m a) (origin i m b))) (and_false (eqb (origin i m a) i))

  -- one of the nodes that replace another is before one of them by their own order
  pub row_inside : (a b : ℕ) → IsSquare m inner → origin i m a ≡ i → is_before inner (a - i) b ≡ (ltb b m && replaced_order order i m inner a (i + b))
  row_inside a b square e = elim (cases_lt b m) [
    | inl low ↦ (let f : origin i m (i + b) ≡ i = origin_inside i m (i + b) (omega arith) (omega arith) in
        let g : i + b - i ≡ b = omega arith in
        sym (ap (λ p. p && replaced_order order i m inner a (i + b)) (lt-ltb b m low)
        ∙ ap₂ (λ p q. cond (p && q) (is_before inner (a - i) (i + b - i)) (is_before order (origin i m a) (origin i m (i + b)))) (eq-eqb (origin i m a) i e) (eq-eqb (origin i m (i + b)) i f)
        ∙ ap (is_before inner (a - i)) g))
    | inr past ↦ square_past_right m inner (a - i) b square past ∙ sym (ap (λ p. p && replaced_order order i m inner a (i + b)) (le-ltb b m past))
  ]

  -- one outside is before all nodes that replace another, or before none of them
  pub row_outside : (a b : ℕ) (is : Bool) → (origin i m a ≡ i → ⊥) → is_before order (origin i m a) i ≡ is
      → (ltb b m && is) ≡ (ltb b m && replaced_order order i m inner a (i + b))
  row_outside a b is out e = elim (cases_lt b m) [
    | inl low ↦ (let f : origin i m (i + b) ≡ i = origin_inside i m (i + b) (omega arith) (omega arith) in
        ap (λ p. ltb b m && p) (sym (
        ap (λ p. cond (p && eqb (origin i m (i + b)) i) (is_before inner (a - i) (i + b - i)) (is_before order (origin i m a) (origin i m (i + b)))) (ne_eqb (origin i m a) i out)
        ∙ ap (is_before order (origin i m a)) f ∙ e)))
    | inr past ↦ ap (λ p. p && is) (le-ltb b m past) ∙ sym (ap (λ p. p && replaced_order order i m inner a (i + b)) (le-ltb b m past))
  ]

  -- the row of what a position stood for, with what it is before among the new nodes, is its row
  pub row_spliced : (a b word middle : ℕ) → ((k : ℕ) → is_set word k ≡ is_before order (origin i m a) k)
      → ((k : ℕ) → is_set middle k ≡ (ltb k m && replaced_order order i m inner a (i + k)))
      → is_set_spliced word i m middle b ≡ replaced_order order i m inner a b
  row_spliced a b word middle outer inside = elim (cases_lt b i) [
    | inl low ↦ (let o = origin_below i m b low in
        ap (λ p. cond p (is_set word b) (cond (ltb b (i + m)) (is_set middle (b - i)) (is_set word (b + 1 - m)))) (lt-ltb b i low)
        ∙ outer b ∙ ap (is_before order (origin i m a)) (sym o)
        ∙ sym (read_out a b (λ e. omega arith)))
    | inr up ↦
        ap (λ p. cond p (is_set word b) (cond (ltb b (i + m)) (is_set middle (b - i)) (is_set word (b + 1 - m)))) (le-ltb b i up)
        ∙ (elim (cases_lt b (i + m)) [
          | inl within ↦ (let g : i + (b - i) ≡ b = omega arith in
              ap (λ p. cond p (is_set middle (b - i)) (is_set word (b + 1 - m))) (lt-ltb b (i + m) within)
              ∙ inside (b - i)
              ∙ ap₂ (λ p k. p && replaced_order order i m inner a k) (lt-ltb (b - i) m (omega arith)) g)
          | inr above ↦ (let o = origin_above i m b above in
              ap (λ p. cond p (is_set middle (b - i)) (is_set word (b + 1 - m))) (le-ltb b (i + m) above)
              ∙ outer (b + 1 - m) ∙ ap (is_before order (origin i m a)) (sym o)
              ∙ sym (read_out a b (λ e. omega arith)))
        ])
  ]

-- ## The positions that some position is before

-- a list with one more isn't empty
not_empty_more : (xs : List ℕ) (a : ℕ) → is_empty (xs ++ a ∷ []) ≡ false
not_empty_more [] a = refl
not_empty_more (x ∷ xs) a = refl

-- the greater of two numbers of which one is 1 isn't 0
larger_not_zero : (x y z : ℕ) → z ≡ max x y → y ≡ 1 → z ≡ 0 → ⊥
larger_not_zero x y z e one none = omega arith

-- the greater of a number and a bit that isn't 1 is that number
larger_same : (x y z : ℕ) → z ≡ max x y → y < 2 → (y ≡ 1 → ⊥) → x ≡ z
larger_same x y z e small other = let apart : y ≢ 1 = other in omega arith

-- with one more row in the word, a bit is clear where none of one more position passes
pub entered_more : (test : ℕ → Bool) (a v w b : ℕ) → is_empty (passing test a) ≡ eqb (bit_at v b) 0 → is_set w b ≡ test a
    → is_empty (passing test (a + 1)) ≡ eqb (bit_at (bit_or v w) b) 0
entered_more test a v w b so_far is = elim (cases_Bool (test a)) [
  | inl passes ↦
      ap is_empty (one_passes test a passes) ∙ not_empty_more (passing test a) a
      ∙ sym (ne_eqb (bit_at (bit_or v w) b) 0 (larger_not_zero (bit_at v b) (bit_at w b) (bit_at (bit_or v w) b) (bit_at_or v w b) (eqb-true (bit_at w b) 1 (is ∙ passes))))
  | inr fails ↦
      ap is_empty (one_fails test a fails) ∙ so_far
      ∙ ap (λ u. eqb u 0) (larger_same (bit_at v b) (bit_at w b) (bit_at (bit_or v w) b) (bit_at_or v w b) (bit_at-lt w b) (λ e. both_ways (is_set w b) (is ∙ fails) (eq-eqb (bit_at w b) 1 e)))
]
