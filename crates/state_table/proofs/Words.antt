-- Sets of numbers, word by word and bit by bit.
use Rattle.std.proofs.Common.{◌≡◌, ◌≢◌, ℕ, ◌+◌, ◌-◌, ◌*◌, ◌/◌, ◌%◌, ◌^◌, ◌<◌, ◌≤◌, Bool, true, false, not, eqb, ◌||◌, ◌&&◌, ◌⊎◌, inl, inr, List, [], ◌∷◌, ◌++◌, length, get_or, set, take, refl, sym, ap, ap₂, ◌∙◌, subst, arith, bit_or, bit_and, cond, get_or-set_same, get_or-set_other}
use Rattle.std.specs.Int.{bit_at, bit_not, w64}
use Rattle.std.specs.Prelude.{max, min}
use Rattle.std.proofs.lemmas.Bool.{cases_lt, cases_eq, eq-eqb, ne_eqb, both_ways}
use Rattle.std.proofs.lemmas.Nat.{and_le_l, div-add-mod', or_lt}
use Rattle.std.proofs.lemmas.Nat.Bits.{bit_at-lt, bit_at_set_same, bit_at_set_other, bit_at_and, bit_at_clear_same, bit_at_clear_other, bit_at_not, bit_at_or, bit_at-zero, same_from_bits_below}
use Rattle.std.proofs.lemmas.List.{get_or_append_left, get_or_push, get_or_past, get_or_default, get_or-take, length-append, length-set, length-take, same_lists, drop_all, append-nil, take_all}
use Rattle.std.proofs.lemmas.List.Folds.{list_any_more}
use Rattle.std.specs.List.{list_any, refill}
use Rattle.state_table.specs.Bits.{is_set, has, mix, AreSmall, IsBits}

-- a bit is 0 or 1
low_bit : (a : ℕ) → a < 2 → (a ≡ 0) ⊎ (a ≡ 1)
low_bit a h = elim (cases_lt a 1) [ inl less ↦ inl (omega arith) | inr more ↦ inr (omega arith) ]

-- bits are equal where they are set alike
bit_from_set : (v w i : ℕ) → is_set v i ≡ is_set w i → bit_at v i ≡ bit_at w i
bit_from_set v w i alike = elim (low_bit (bit_at v i) (bit_at-lt v i)) [
  | inl e ↦ elim (low_bit (bit_at w i) (bit_at-lt w i)) [
    | inl f ↦ e ∙ sym f
    | inr f ↦ absurd (both_ways (is_set v i) (ap (λ b. eqb b 1) e) (alike ∙ ap (λ b. eqb b 1) f))
  ]
  | inr e ↦ elim (low_bit (bit_at w i) (bit_at-lt w i)) [
    | inl f ↦ absurd (both_ways (is_set w i) (ap (λ b. eqb b 1) f) (sym alike ∙ ap (λ b. eqb b 1) e))
    | inr f ↦ e ∙ sym f
  ]
]

-- anything or true
or_true : (p : Bool) → (p || true) ≡ true
or_true true = refl
or_true false = refl

-- anything or false
or_false : (p : Bool) → (p || false) ≡ p
or_false true = refl
or_false false = refl

-- anything and true
and_true : (p : Bool) → (p && true) ≡ p
and_true true = refl
and_true false = refl

-- anything and false
and_false : (p : Bool) → (p && false) ≡ false
and_false true = refl
and_false false = refl

-- sets whose words are alike have the same numbers
pub same_has : (vs ws : List ℕ) → ((k : ℕ) → get_or vs k 0 ≡ get_or ws k 0) → (x : ℕ) → has vs x ≡ has ws x
same_has vs ws same x = ap (λ w. is_set w (x % 64)) (same (x / 64))

-- a bit after one is set
is_set-with : (w k i : ℕ) → k < 64 → is_set (bit_or w (1 * 2 ^ k % 2 ^ 64)) i ≡ (is_set w i || eqb i k)
is_set-with w k i h = elim (cases_eq i k) [
  | inl same ↦ ap (is_set (bit_or w (1 * 2 ^ k % 2 ^ 64))) same ∙ ap (λ b. eqb b 1) (bit_at_set_same w64 w k h) ∙ sym (ap (λ p. is_set w i || p) (eq-eqb i k same) ∙ or_true (is_set w i))
  | inr other ↦ ap (λ b. eqb b 1) (bit_at_set_other w64 w k h i other) ∙ sym (ap (λ p. is_set w i || p) (ne_eqb i k other) ∙ or_false (is_set w i))
]

-- a bit after one is cleared
is_set-without : (w k i : ℕ) → k < 64 → i < 64 → is_set (bit_and w (bit_not w64 (1 * 2 ^ k % 2 ^ 64))) i ≡ (is_set w i && not (eqb i k))
is_set-without w k i h g = elim (cases_eq i k) [
  | inl same ↦ ap (is_set (bit_and w (bit_not w64 (1 * 2 ^ k % 2 ^ 64)))) same ∙ ap (λ b. eqb b 1) (bit_at_clear_same w64 w k h) ∙ sym (ap (λ p. is_set w i && not p) (eq-eqb i k same) ∙ and_false (is_set w i))
  | inr other ↦ ap (λ b. eqb b 1) (bit_at_clear_other w64 w k h i g other) ∙ sym (ap (λ p. is_set w i && not p) (ne_eqb i k other) ∙ and_true (is_set w i))
]

-- numbers of one word are equal where their bits are
same_number : (x b : ℕ) → x / 64 ≡ b / 64 → eqb (x % 64) (b % 64) ≡ eqb x b
same_number x b e = elim (cases_eq x b) [
  | inl same ↦ eq-eqb (x % 64) (b % 64) (ap (λ m. m % 64) same) ∙ sym (eq-eqb x b same)
  | inr other ↦ ne_eqb (x % 64) (b % 64) (λ f. other (let p = div-add-mod' x 64 in let q = div-add-mod' b 64 in omega arith)) ∙ sym (ne_eqb x b other)
]

-- a word is changed
module _ (words : List ℕ) (b v : ℕ) (fits : b / 64 < length words) where
  -- by one with a bit more
  pub put_has : ((i : ℕ) → i < 64 → is_set v i ≡ (is_set (get_or words (b / 64) 0) i || eqb i (b % 64))) → (x : ℕ) → has (set words (b / 64) v) x ≡ (has words x || eqb x b)
  put_has here x = elim (cases_eq (x / 64) (b / 64)) [
    | inl word ↦
        ap (λ k. is_set (get_or (set words (b / 64) v) k 0) (x % 64)) word
        ∙ ap (λ w. is_set w (x % 64)) (get_or-set_same words (b / 64) _ 0 fits)
        ∙ here (x % 64) (omega arith)
        ∙ ap₂ (λ k p. is_set (get_or words k 0) (x % 64) || p) (sym word) (same_number x b word)
    | inr apart ↦
        (let other : x ≡ b → ⊥ = λ e. apart (ap (λ m. m / 64) e) in
        ap (λ w. is_set w (x % 64)) (get_or-set_other words (b / 64) (x / 64) _ 0 apart)
        ∙ sym (ap (λ p. has words x || p) (ne_eqb x b other) ∙ or_false (has words x)))
  ]

  -- by one with a bit less
  pub taken_has : ((i : ℕ) → i < 64 → is_set v i ≡ (is_set (get_or words (b / 64) 0) i && not (eqb i (b % 64)))) → (x : ℕ) → has (set words (b / 64) v) x ≡ (has words x && not (eqb x b))
  taken_has here x = elim (cases_eq (x / 64) (b / 64)) [
    | inl word ↦
        ap (λ k. is_set (get_or (set words (b / 64) v) k 0) (x % 64)) word
        ∙ ap (λ w. is_set w (x % 64)) (get_or-set_same words (b / 64) _ 0 fits)
        ∙ here (x % 64) (omega arith)
        ∙ ap₂ (λ k p. is_set (get_or words k 0) (x % 64) && not p) (sym word) (same_number x b word)
    | inr apart ↦
        (let other : x ≡ b → ⊥ = λ e. apart (ap (λ m. m / 64) e) in
        ap (λ w. is_set w (x % 64)) (get_or-set_other words (b / 64) (x / 64) _ 0 apart)
        ∙ sym (ap (λ p. has words x && not p) (ne_eqb x b other) ∙ and_true (has words x)))
  ]

-- words stay small where a small one is written
pub small_set : (words : List ℕ) (j v : ℕ) → j < length words → v < 2 ^ 64 → AreSmall words → AreSmall (set words j v)
small_set words j v fits less small k = elim (cases_eq k j) [
  | inl same ↦ subst (λ w. w < 2 ^ 64) (sym (ap (λ k. get_or (set words j v) k 0) same ∙ get_or-set_same words j v 0 fits)) less
  | inr other ↦ subst (λ w. w < 2 ^ 64) (sym (get_or-set_other words j k v 0 other)) (small k)
]

-- words alike to small ones are small
pub small_same : (vs ws : List ℕ) → ((k : ℕ) → get_or vs k 0 ≡ get_or ws k 0) → AreSmall ws → AreSmall vs
small_same vs ws same small k = subst (λ w. w < 2 ^ 64) (sym (same k)) (small k)

-- a word with a bit more
pub put_word : (w k : ℕ) → k < 64 → (i : ℕ) → i < 64 → is_set (bit_or w (1 * 2 ^ k % 2 ^ 64)) i ≡ (is_set w i || eqb i k)
put_word w k h i g = is_set-with w k i h

-- a word with a bit less
pub taken_word : (w k : ℕ) → k < 64 → (i : ℕ) → i < 64 → is_set (bit_and w (bit_not w64 (1 * 2 ^ k % 2 ^ 64))) i ≡ (is_set w i && not (eqb i k))
taken_word w k h i g = is_set-without w k i h g

-- past its words a set has nothing
pub past_has : (words : List ℕ) (x : ℕ) → length words ≤ x / 64 → has words x ≡ false
past_has words x past = ap (λ w. is_set w (x % 64)) (get_or_past words (x / 64) 0 past) ∙ ap (λ b. eqb b 1) (bit_at-zero (x % 64))

-- ## Sets with the same numbers

-- a number by its word and bit
has_at : (words : List ℕ) (k i : ℕ) → i < 64 → has words (k * 64 + i) ≡ is_set (get_or words k 0) i
has_at words k i lt =
    let word : (k * 64 + i) / 64 ≡ k = omega arith in
    let bit : (k * 64 + i) % 64 ≡ i = omega arith in
    ap₂ (λ k i. is_set (get_or words k 0) i) word bit

-- words alike to trimmed ones are no fewer
not_longer : (vs ws : List ℕ) → IsBits ws → ((k : ℕ) → get_or vs k 0 ≡ get_or ws k 0) → length ws ≤ length vs
not_longer vs ws bits same = elim (cases_lt (length vs) (length ws)) [
  | inl less ↦ absurd (bits.trimmed (get_or_default ws (length ws - 1) 1 0 (omega arith) ∙ sym (same (length ws - 1)) ∙ get_or_past vs (length ws - 1) 0 (omega arith)))
  | inr more ↦ more
]

-- sets with the same numbers have the same words
pub same_words : (vs ws : List ℕ) → IsBits vs → IsBits ws → ((x : ℕ) → has vs x ≡ has ws x) → vs ≡ ws
same_words vs ws v w alike =
    let each : (k : ℕ) → get_or vs k 0 ≡ get_or ws k 0 = λ k. same_from_bits_below 64 (get_or vs k 0) (get_or ws k 0) (v.small k) (w.small k)
    (λ i less. bit_from_set (get_or vs k 0) (get_or ws k 0) i (sym (has_at vs k i less) ∙ alike (k * 64 + i) ∙ has_at ws k i less)) in
    let one = not_longer vs ws w each in
    let two = not_longer ws vs v (λ k. sym (each k)) in
    let long : length vs ≡ length ws = omega arith in
    same_lists vs ws long (λ k d less. get_or_default vs k d 0 less ∙ each k ∙ get_or_default ws k 0 d (omega arith))

-- ## Words at the end that are 0

-- without a last word that is 0 all is alike
pub without_last : (words : List ℕ) → 0 < length words → get_or words (length words - 1) 0 ≡ 0 → (j : ℕ) → get_or (take (length words - 1) words) j 0 ≡ get_or words j 0
without_last words some zero_last j = elim (cases_lt j (length words - 1)) [
  | inl before ↦ get_or-take (length words - 1) words j 0 before
  | inr after ↦
      get_or_past (take (length words - 1) words) j 0 (omega (arith, length-take (length words - 1) words))
      ∙ sym (elim (cases_eq j (length words - 1)) [
        | inl last ↦ ap (λ j. get_or words j 0) last ∙ zero_last
        | inr past ↦ (let p : j ≢ length words - 1 = past in get_or_past words j 0 (omega (arith, p)))
      ])
]

-- ## Some taken out, and others put in

-- one more is taken out
pub taken_more : (h : Bool) (x : ℕ) (numbers : List ℕ) (i d : ℕ) → i < length numbers
    → ((h && not (list_any (eqb x) (take i numbers))) && not (eqb x (get_or numbers i d))) ≡ (h && not (list_any (eqb x) (take (i + 1) numbers)))
taken_more h x numbers i d less = both h (list_any (eqb x) (take i numbers)) (eqb x (get_or numbers i d)) ∙ ap (λ p. h && not p) (sym (list_any_more (eqb x) numbers i d less))
  where
    both : (h a b : Bool) → ((h && not a) && not b) ≡ (h && not (a || b))
    both true true b = refl
    both true false b = refl
    both false a b = refl

-- one more is put in
pub put_more : (h : Bool) (x : ℕ) (numbers : List ℕ) (i d : ℕ) → i < length numbers
    → ((h || list_any (eqb x) (take i numbers)) || eqb x (get_or numbers i d)) ≡ (h || list_any (eqb x) (take (i + 1) numbers))
put_more h x numbers i d less = both h (list_any (eqb x) (take i numbers)) (eqb x (get_or numbers i d)) ∙ ap (λ p. h || p) (sym (list_any_more (eqb x) numbers i d less))
  where
    both : (h a b : Bool) → ((h || a) || b) ≡ (h || (a || b))
    both true a b = refl
    both false a b = refl

-- ## The bits of a mask as other words have them

-- a bit of a mixed word
abbrev IsMixedBit : ℕ → ℕ → ℕ → Type 0
IsMixedBit v m p = eqb (max (min v (1 - m)) (min p m)) 1 ≡ cond (eqb m 1) (eqb p 1) (eqb v 1)

mixed_at : (v m p x y z : ℕ) → v ≡ x → m ≡ y → p ≡ z → IsMixedBit x y z → IsMixedBit v m p
mixed_at v m p x y z e f g h =
    subst (λ a. IsMixedBit a m p) (sym e) (subst (λ a. IsMixedBit x a p) (sym f) (subst (λ a. IsMixedBit x y a) (sym g) h))

mixed_bits : (v m p : ℕ) → v < 2 → m < 2 → p < 2 → IsMixedBit v m p
mixed_bits v m p a b c = by (low_bit v a) (low_bit m b) (low_bit p c)
  where
    by : (v ≡ 0) ⊎ (v ≡ 1) → (m ≡ 0) ⊎ (m ≡ 1) → (p ≡ 0) ⊎ (p ≡ 1) → IsMixedBit v m p
    by (inl e) (inl f) (inl g) = mixed_at v m p 0 0 0 e f g refl
    by (inl e) (inl f) (inr g) = mixed_at v m p 0 0 1 e f g refl
    by (inl e) (inr f) (inl g) = mixed_at v m p 0 1 0 e f g refl
    by (inl e) (inr f) (inr g) = mixed_at v m p 0 1 1 e f g refl
    by (inr e) (inl f) (inl g) = mixed_at v m p 1 0 0 e f g refl
    by (inr e) (inl f) (inr g) = mixed_at v m p 1 0 1 e f g refl
    by (inr e) (inr f) (inl g) = mixed_at v m p 1 1 0 e f g refl
    by (inr e) (inr f) (inr g) = mixed_at v m p 1 1 1 e f g refl

mix_bit : (v m p i : ℕ) → m < 2 ^ 64 → i < 64 → is_set (mix v m p) i ≡ cond (is_set m i) (is_set p i) (is_set v i)
mix_bit v m p i small less =
    ap (λ b. eqb b 1) (bit_at_or (bit_and v (bit_not w64 m)) (bit_and p m) i
    ∙ ap₂ max (bit_at_and v (bit_not w64 m) i ∙ ap (min (bit_at v i)) (bit_at_not w64 m i small less)) (bit_at_and p m i))
    ∙ mixed_bits (bit_at v i) (bit_at m i) (bit_at p i) (bit_at-lt v i) (bit_at-lt m i) (bit_at-lt p i)

-- a mixed word has 64 bits
mix_small : (v m p : ℕ) → v < 2 ^ 64 → p < 2 ^ 64 → mix v m p < 2 ^ 64
mix_small v m p one two =
    or_lt 64 (bit_and v (bit_not w64 m)) (bit_and p m) (omega (arith, and_le_l v (bit_not w64 m), one)) (omega (arith, and_le_l p m, two))

-- words of which each is mixed, so far as there are some
abbrev pub AreMixed : List ℕ → List ℕ → List ℕ → List ℕ → Type 0
AreMixed ws vs ms ps = (j : ℕ) → j < length ws → get_or ws j 0 ≡ mix (get_or vs j 0) (get_or ms j 0) (get_or ps j 0)

-- where there are none
pub none_mixed : (vs ms ps : List ℕ) → AreMixed [] vs ms ps
none_mixed vs ms ps j less = absurd (omega (arith, less))

-- one more is mixed
pub mixed_more : (ws vs ms ps : List ℕ) (k : ℕ) → k ≡ length ws → AreMixed ws vs ms ps
    → AreMixed (ws ++ mix (get_or vs k 0) (get_or ms k 0) (get_or ps k 0) ∷ []) vs ms ps
mixed_more ws vs ms ps k long are j less = elim (cases_lt j (length ws)) [
  | inl before ↦ get_or_append_left ws (mix (get_or vs k 0) (get_or ms k 0) (get_or ps k 0) ∷ []) 0 j before ∙ are j before
  | inr after ↦
      (let last : j ≡ length ws = omega (arith, less, after, length-append ws (mix (get_or vs k 0) (get_or ms k 0) (get_or ps k 0) ∷ [])) in
      get_or_push ws (mix (get_or vs k 0) (get_or ms k 0) (get_or ps k 0)) 0 j (sym last)
      ∙ ap (λ k. mix (get_or vs k 0) (get_or ms k 0) (get_or ps k 0)) (long ∙ sym last))
]

-- and small
pub mixed_small : (ws vs ms ps : List ℕ) → AreSmall vs → AreSmall ps → AreMixed ws vs ms ps → AreSmall ws
mixed_small ws vs ms ps v p are k = elim (cases_lt k (length ws)) [
  | inl less ↦ subst (λ w. w < 2 ^ 64) (sym (are k less)) (mix_small (get_or vs k 0) (get_or ms k 0) (get_or ps k 0) (v k) (p k))
  | inr past ↦ subst (λ w. w < 2 ^ 64) (sym (get_or_past ws k 0 past)) (omega arith)
]

-- either way nothing
either_false : (b : Bool) → cond b false false ≡ false
either_false true = refl
either_false false = refl

-- mixed words have the numbers of a mask as other words have them
pub mixed_has : (ws vs ms ps : List ℕ) → length vs ≤ length ws → length ps ≤ length ws → AreSmall ms → AreMixed ws vs ms ps
    → (x : ℕ) → has ws x ≡ cond (has ms x) (has ps x) (has vs x)
mixed_has ws vs ms ps one two m are x = elim (cases_lt (x / 64) (length ws)) [
  | inl less ↦
      ap (λ w. is_set w (x % 64)) (are (x / 64) less)
      ∙ mix_bit (get_or vs (x / 64) 0) (get_or ms (x / 64) 0) (get_or ps (x / 64) 0) (x % 64) (m (x / 64)) (omega arith)
  | inr past ↦
      past_has ws x past
      ∙ sym (ap₂ (cond (has ms x)) (past_has ps x (omega (arith, two, past))) (past_has vs x (omega (arith, one, past))) ∙ either_false (has ms x))
]

-- ## Sets inside others

-- a word of which another one has all bits
inside_bit : (v w i : ℕ) → w < 2 ^ 64 → i < 64 → bit_and v (bit_not w64 w) ≡ 0 → is_set v i ≡ true → is_set w i ≡ true
inside_bit v w i small less none one = elim (low_bit (bit_at w i) (bit_at-lt w i)) [
  | inr there ↦ ap (λ b. eqb b 1) there
  | inl lacks ↦
      (let zero_bit = sym (bit_at_and v (bit_not w64 w) i) ∙ ap (λ n. bit_at n i) none ∙ bit_at-zero i in
      let both : min (bit_at v i) (1 - bit_at w i) ≡ 0 = sym (ap (min (bit_at v i)) (bit_at_not w64 w i small less)) ∙ zero_bit in
      elim (low_bit (bit_at v i) (bit_at-lt v i)) [
        | inl zero_v ↦ absurd (both_ways (is_set v i) (ap (λ b. eqb b 1) zero_v) one)
        | inr one_v ↦ (let e : 1 ≡ 0 = sym (ap₂ (λ b d. min b (1 - d)) one_v lacks) ∙ both in absurd (omega (arith, e)))
      ])
]

-- words of which others have all bits are a set inside theirs
pub inside_has : (vs ws : List ℕ) → AreSmall ws → ((k : ℕ) → k < length vs → bit_and (get_or vs k 0) (bit_not w64 (get_or ws k 0)) ≡ 0)
    → (x : ℕ) → has vs x ≡ true → has ws x ≡ true
inside_has vs ws small none x has_x = elim (cases_lt (x / 64) (length vs)) [
  | inl less ↦ inside_bit (get_or vs (x / 64) 0) (get_or ws (x / 64) 0) (x % 64) (small (x / 64)) (omega arith) (none (x / 64) less) has_x
  | inr past ↦ absurd (both_ways (has vs x) (past_has vs x past) has_x)
]

-- words after a write through a slice of all of them
pub written : (words slice : List ℕ) (j v : ℕ) → slice ≡ words → refill (length words) words (set slice j v) ≡ set words j v
written words slice j v same =
    ap (λ (l : List ℕ). refill (length words) words (set l j v)) same
    ∙ ap (λ (l : List ℕ). take (length words) (set words j v ++ l)) (drop_all (length (set words j v)) words (omega (arith, length-set words j v)))
    ∙ ap (take (length words)) (append-nil (set words j v))
    ∙ take_all (length words) (set words j v) (omega (arith, length-set words j v))
