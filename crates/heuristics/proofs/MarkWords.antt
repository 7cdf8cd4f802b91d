-- Marks as the bits of words.
use Rattle.std.proofs.Common.{◌≡◌, ℕ, ◌+◌, ◌-◌, ◌/◌, ◌%◌, ◌<◌, ◌≤◌, Bool, true, false, cond, eqb, ◌||◌, List, [], ◌∷◌, ◌++◌, length, get_or, set, Option, None, Some, inl, inr, refl, sym, ap, ◌∙◌, arith, bit_or, get_or-set_same, get_or-set_other, length-append}
use Rattle.std.proofs.lemmas.Bool.{both_ways, cases_eq, cases_lt, eq-eqb, ne_eqb}
use Rattle.std.proofs.lemmas.List.{get_or_append_left, get_or-append_right, get_or_past}
use Rattle.std.proofs.lemmas.Nat.{and_le_l, or_disjoint}
use Rattle.htn_order.specs.BitRows.{is_set}
use Rattle.htn_order.proofs.Bits.{is_set-or, is_set-zero}
use Rattle.heuristics.specs.Rows.{is_marked}

-- nothing and a word are that word
pub zero_or : (w : ℕ) → bit_or 0 w ≡ w
zero_or w = let none = and_le_l 0 w in or_disjoint 0 w (omega (arith, none)) ∙ (let e : 0 + w ≡ w = omega arith in e)

-- with what fails, either is the other
or_false : (p : Bool) → (p || false) ≡ p
or_false true = refl
or_false false = refl

-- no mark stands past the words
past_marks : (a : List ℕ) (j i : ℕ) → length a ≤ j → is_set (get_or a j 0) i ≡ false
past_marks a j i past = ap (λ w. is_set w i) (get_or_past a j 0 past) ∙ is_set-zero i

-- no mark stands where there is no word
pub none_marked : (number : Option ℕ) → is_marked [] number ≡ false
none_marked None = refl
none_marked (Some k) = is_set-zero (k % 64)

-- where each word has no mark that the other's hasn't, no mark stands that the others haven't
pub marked_too : (a b : List ℕ) → ((j : ℕ) → j < length a → bit_or (get_or a j 0) (get_or b j 0) ≡ get_or b j 0) → (number : Option ℕ) → is_marked a number ≡ true → is_marked b number ≡ true
marked_too a b each None on = on
marked_too a b each (Some k) on =
    let j = k / 64 in
    let i = k % 64 in
    elim (cases_lt j (length a)) [
      | inl low ↦
          sym (ap (λ w. is_set w i) (each j low))
          ∙ is_set-or (get_or a j 0) (get_or b j 0) i
          ∙ ap (λ p. p || is_set (get_or b j 0) i) on
      | inr past ↦ absurd (both_ways (is_set (get_or a j 0) i) (past_marks a j i past) on)
    ]

-- marks whose words are those of two together, and past the second ones those of the first
pub joined_marks : (a b c : List ℕ) → ((j : ℕ) → j < length b → get_or c j 0 ≡ bit_or (get_or a j 0) (get_or b j 0)) → ((j : ℕ) → length b ≤ j → get_or c j 0 ≡ get_or a j 0)
    → (number : Option ℕ) → is_marked c number ≡ (is_marked a number || is_marked b number)
joined_marks a b c below above None = refl
joined_marks a b c below above (Some k) =
    let j = k / 64 in
    let i = k % 64 in
    elim (cases_lt j (length b)) [
      | inl low ↦ ap (λ w. is_set w i) (below j low) ∙ is_set-or (get_or a j 0) (get_or b j 0) i
      | inr past ↦ ap (λ w. is_set w i) (above j past) ∙ sym (ap (λ p. is_set (get_or a j 0) i || p) (past_marks b j i past) ∙ or_false (is_set (get_or a j 0) i))
    ]

-- a word is written
pub written_word : (l : List ℕ) (k v : ℕ) → k < length l → (j : ℕ) → get_or (set l k v) j 0 ≡ cond (eqb j k) v (get_or l j 0)
written_word l k v low j = elim (cases_eq j k) [
  | inl same ↦ ap (λ n. get_or (set l k v) n 0) same ∙ get_or-set_same l k v 0 low ∙ sym (ap (λ t. cond t v (get_or l j 0)) (eq-eqb j k same))
  | inr other ↦ get_or-set_other l k j v 0 other ∙ sym (ap (λ t. cond t v (get_or l j 0)) (ne_eqb j k other))
]

-- the other words stay where one is put after the last one
other_word : (l : List ℕ) (v j : ℕ) → (j ≡ length l → ⊥) → get_or (l ++ v ∷ []) j 0 ≡ get_or l j 0
other_word l v j other = elim (cases_lt j (length l)) [
  | inl low ↦ get_or_append_left l (v ∷ []) 0 j low
  | inr past ↦ get_or_past (l ++ v ∷ []) j 0 (let long = length-append l (v ∷ []) in grind arith) ∙ sym (get_or_past l j 0 past)
]

-- a word is put after the last one
pub pushed_word : (l : List ℕ) (k v : ℕ) → length l ≡ k → (j : ℕ) → get_or (l ++ v ∷ []) j 0 ≡ cond (eqb j k) (bit_or (get_or l k 0) v) (get_or l j 0)
pushed_word l k v long j = elim (cases_eq j k) [
  | inl same ↦
      get_or-append_right l (v ∷ []) k j 0 long (omega arith)
      ∙ ap (λ n. get_or (v ∷ []) n 0) (let e : j - k ≡ 0 = omega arith in e)
      ∙ sym (zero_or v)
      ∙ ap (λ w. bit_or w v) (sym (get_or_past l k 0 (omega arith)))
      ∙ sym (ap (λ t. cond t (bit_or (get_or l k 0) v) (get_or l j 0)) (eq-eqb j k same))
  | inr other ↦
      other_word l v j (λ e. other (omega arith)) ∙ sym (ap (λ t. cond t (bit_or (get_or l k 0) v) (get_or l j 0)) (ne_eqb j k other))
]

-- words of which those below a place are two lists' together, and the others those of the first
pub record AreJoinedBelow (k : ℕ) (a b c : List ℕ) : Type 0 where
  pub below : (j : ℕ) → j < k → get_or c j 0 ≡ bit_or (get_or a j 0) (get_or b j 0)
  pub above : (j : ℕ) → k ≤ j → get_or c j 0 ≡ get_or a j 0

-- one more word
pub joined_more : (k : ℕ) (a b c d : List ℕ) → ((j : ℕ) → get_or d j 0 ≡ cond (eqb j k) (bit_or (get_or c k 0) (get_or b k 0)) (get_or c j 0)) → AreJoinedBelow k a b c → AreJoinedBelow (k + 1) a b d
joined_more k a b c d step are = record {
  below = λ j low. elim (cases_eq j k) [
    | inl same ↦
        step j
        ∙ ap (λ t. cond t (bit_or (get_or c k 0) (get_or b k 0)) (get_or c j 0)) (eq-eqb j k same)
        ∙ ap (λ w. bit_or w (get_or b k 0)) (are.above k (omega arith))
        ∙ ap (λ n. bit_or (get_or a n 0) (get_or b n 0)) (sym same)
    | inr other ↦ step j ∙ ap (λ t. cond t (bit_or (get_or c k 0) (get_or b k 0)) (get_or c j 0)) (ne_eqb j k other) ∙ are.below j (omega arith)
  ];
  above = λ j past.
      step j ∙ ap (λ t. cond t (bit_or (get_or c k 0) (get_or b k 0)) (get_or c j 0)) (ne_eqb j k (λ e. omega arith)) ∙ are.above j (omega arith);
}
