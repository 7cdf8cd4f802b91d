-- The numbers below a bound that pass a test; free nodes; a least node below each node.
use Rattle.std.proofs.Common.{◌≡◌, ℕ, zero, suc, ◌+◌, ◌<◌, ◌≤◌, Bool, true, false, cond, List, [], ◌∷◌, filter, slice_get, Some, None, ◌⊎◌, inl, inr, sym, refl, ap, ◌∙◌, subst, arith}
use Rattle.std.proofs.lemmas.Bool.{cases_Bool, both_ways, cases_lt}
use Rattle.std.specs.List.{range_with_len}
use Rattle.htn_model.specs.Choice.{is_empty, passing, is_free}

-- ## Numbers that pass

-- a number of the range passes
abbrev Passes : (ℕ → Bool) → ℕ → ℕ → ℕ → Type 0
Passes test a n j = (a ≤ j) × (j < a + n) × (test j ≡ true)

-- the numbers of a range that pass
abbrev from : (ℕ → Bool) → ℕ → ℕ → List ℕ
from test a n = filter test (range_with_len a n)

-- what is found passes, whether it is the first of the range or a later one
passes_step : (test : ℕ → Bool) (a n j : ℕ) (b : Bool) → test a ≡ b → ((k : ℕ) → slice_get (from test (a + 1) n) k ≡ Some j → Passes test (a + 1) n j)
    → (k : ℕ) → slice_get (cond b (a ∷ from test (a + 1) n) (from test (a + 1) n)) k ≡ Some j → Passes test a (suc n) j
passes_step test a n j true e later zero h = let same : a ≡ j = cc in (omega arith, omega arith, subst (λ x. test x ≡ true) same e)
passes_step test a n j true e later (suc k) h = let found = later k h in (omega arith, omega arith, found.2)
passes_step test a n j false e later k h = let found = later k h in (omega arith, omega arith, found.2)

-- what is found in a range passes and lies in it
passes_from : (test : ℕ → Bool) (a n j k : ℕ) → slice_get (from test a n) k ≡ Some j → Passes test a n j
passes_from test a zero j k h = absurd cc
passes_from test a (suc n) j k h = passes_step test a n j (test a) refl (passes_from test (a + 1) n j) k h

-- what is found below a bound passes and is below it
pub passes : (test : ℕ → Bool) (n k j : ℕ) → slice_get (passing test n) k ≡ Some j → (j < n) × (test j ≡ true)
passes test n k j h = let found = passes_from test 0 n j k h in (omega arith, found.2)

-- a number stands in a list
abbrev Found : List ℕ → ℕ → Type 0
Found xs j = (k : ℕ) × (slice_get xs k ≡ Some j)

-- a number that passes is found, whether it is the first of the range or a later one
found_step : (test : ℕ → Bool) (a n j : ℕ) (b : Bool) → test a ≡ b → test j ≡ true → ((a ≡ j) ⊎ Found (from test (a + 1) n) j)
    → Found (cond b (a ∷ from test (a + 1) n) (from test (a + 1) n)) j
found_step test a n j true e t (inl same) = (0, ap Some same)
found_step test a n j true e t (inr found) = (suc found.0, found.1)
found_step test a n j false e t (inl same) = absurd (both_ways (test j) (sym (ap test same) ∙ e) t)
found_step test a n j false e t (inr found) = found

-- a number of a range is its first or is in the rest
found_or : (test : ℕ → Bool) (a n j : ℕ) → (a ≤ j) → (a + 1 ≤ j → Found (from test (a + 1) n) j) → (a ≡ j) ⊎ Found (from test (a + 1) n) j
found_or test a n j low later = elim (cases_lt a j) [ inl less ↦ inr (later (omega arith)) | inr other ↦ inl (omega arith) ]

-- a number of a range that passes is found
found_from : (test : ℕ → Bool) (a n j : ℕ) → a ≤ j → j < a + n → test j ≡ true → Found (from test a n) j
found_from test a zero j low high t = absurd (omega arith)
found_from test a (suc n) j low high t = found_step test a n j (test a) refl t (found_or test a n j low (λ up. found_from test (a + 1) n j up (omega arith) t))

-- a number below a bound that passes is found
pub found : (test : ℕ → Bool) (n j : ℕ) → j < n → test j ≡ true → (k : ℕ) × (slice_get (passing test n) k ≡ Some j)
found test n j high t = found_from test 0 n j (omega arith) (omega arith) t

-- a number is found at one place, whether it is the first of the range or a later one
one_step : (test : ℕ → Bool) (a n j : ℕ) (b : Bool)
    → ((k l : ℕ) → slice_get (from test (a + 1) n) k ≡ Some j → slice_get (from test (a + 1) n) l ≡ Some j → k ≡ l)
    → (k l : ℕ) → slice_get (cond b (a ∷ from test (a + 1) n) (from test (a + 1) n)) k ≡ Some j
    → slice_get (cond b (a ∷ from test (a + 1) n) (from test (a + 1) n)) l ≡ Some j → k ≡ l
one_step test a n j true later zero zero h i = refl
one_step test a n j true later zero (suc l) h i = let up = passes_from test (a + 1) n j l i in let same : a ≡ j = cc in absurd (omega arith)
one_step test a n j true later (suc k) zero h i = let up = passes_from test (a + 1) n j k h in let same : a ≡ j = cc in absurd (omega arith)
one_step test a n j true later (suc k) (suc l) h i = ap suc (later k l h i)
one_step test a n j false later k l h i = later k l h i

-- a number of a range is found at one place
one_from : (test : ℕ → Bool) (a n j : ℕ) (k l : ℕ) → slice_get (from test a n) k ≡ Some j → slice_get (from test a n) l ≡ Some j → k ≡ l
one_from test a zero j k l h i = absurd cc
one_from test a (suc n) j k l h i = one_step test a n j (test a) (one_from test (a + 1) n j) k l h i

-- a number that passes stands in one place
pub one_place : (test : ℕ → Bool) (n j k l : ℕ) → slice_get (passing test n) k ≡ Some j → slice_get (passing test n) l ≡ Some j → k ≡ l
one_place test n j k l h i = one_from test 0 n j k l h i

-- ## None passes

-- a list without a first value is empty
first_none : (xs : List ℕ) → slice_get xs 0 ≡ None → xs ≡ []
first_none [] h = refl
first_none (x ∷ xs) h = absurd cc

-- where none is found, none passes
pub none_passes : (test : ℕ → Bool) (n j : ℕ) → slice_get (passing test n) 0 ≡ None → j < n → test j ≡ false
none_passes test n j none high = elim (cases_Bool (test j)) [
  | inl t ↦ (let at = found test n j high t in let stands : slice_get [] at.0 ≡ Some j = subst (λ xs. slice_get xs at.0 ≡ Some j) (first_none _ none) at.1 in absurd cc)
  | inr f ↦ f
]

-- an empty list has no first value
empty_first : (xs : List ℕ) → is_empty xs ≡ true → slice_get xs 0 ≡ None
empty_first [] h = refl
empty_first (x ∷ xs) h = absurd cc

-- a list that isn't empty has a first value
first_of_some : (xs : List ℕ) → is_empty xs ≡ false → (x : ℕ) × (slice_get xs 0 ≡ Some x)
first_of_some [] h = absurd cc
first_of_some (x ∷ xs) h = (x, refl)

-- ## Free nodes

-- no node comes before a free one
pub free_none : (n : ℕ) (precedes : ℕ → ℕ → Bool) (i k : ℕ) → is_free n precedes i ≡ true → k < n → precedes k i ≡ false
free_none n precedes i k free high = none_passes (λ k. precedes k i) n k (empty_first _ free) high

-- a node comes before one that isn't free
pub not_free : (n : ℕ) (precedes : ℕ → ℕ → Bool) (i : ℕ) → is_free n precedes i ≡ false → (k : ℕ) × (k < n) × (precedes k i ≡ true)
not_free n precedes i held =
    let first = first_of_some _ held in
    let parts = passes (λ k. precedes k i) n 0 first.0 first.1 in
    (first.0, parts.0, parts.1)

-- ## A free node before each that is not free

-- a node that is free comes before another
abbrev LeastBelow : (ℕ → ℕ → Bool) → ℕ → ℕ → Type 0
LeastBelow precedes n i = (j : ℕ) × (j < n) × (precedes j i ≡ true) × ((k : ℕ) → k < n → precedes k j ≡ false)

module _ (precedes : ℕ → ℕ → Bool) (irreflexive : (a : ℕ) → precedes a a ≡ false)
    (transitive : (a b c : ℕ) → precedes a b ≡ true → precedes b c ≡ true → precedes a c ≡ true) where
  -- where something comes before a node, something free does
  abbrev HasLeast : ℕ → Type 0
  HasLeast n = (i k : ℕ) → k < n → precedes k i ≡ true → LeastBelow precedes n i

  -- where none of n comes before a node, nor the n-th, none of one more does
  below_suc : (n j : ℕ) → ((k : ℕ) → k < n → precedes k j ≡ false) → precedes n j ≡ false → (k : ℕ) → k < suc n → precedes k j ≡ false
  below_suc n j below last k high = elim (cases_lt k n) [
    | inl less ↦ below k less
    | inr other ↦ (let same : n ≡ k = omega arith in subst (λ x. precedes x j ≡ false) same last)
  ]

  -- n itself is least, if none below n is before i
  take_last : (n i : ℕ) → ((k : ℕ) → k < n → precedes k n ≡ false) → precedes n i ≡ true → LeastBelow precedes (suc n) i
  take_last n i below h = (n, omega arith, h, below_suc n n below (irreflexive n))

  -- what comes before a node with none before it has none before it
  none_below : (n i j : ℕ) → ((k : ℕ) → k < n → precedes k j ≡ false) → precedes i j ≡ true → (k : ℕ) → k < n → precedes k i ≡ false
  none_below n i j below h k high = elim (cases_Bool (precedes k i)) [
    | inl t ↦ absurd (both_ways (precedes k j) (below k high) (transitive k i j t h))
    | inr f ↦ f
  ]

  -- a least among n is one among one more
  from_least : (n i : ℕ) (l : LeastBelow precedes n i) → LeastBelow precedes (suc n) i
  from_least n i l = elim (cases_Bool (precedes n l.0)) [
    | inl t ↦ take_last n i (none_below n n l.0 l.3 t) (transitive n l.0 i t l.2)
    | inr f ↦ (l.0, omega arith, l.2, below_suc n l.0 l.3 f)
  ]

  -- the last comes before a node, or something free does
  from_last : (n i : ℕ) → HasLeast n → (b : Bool) → is_free n precedes i ≡ b → precedes n i ≡ true → LeastBelow precedes (suc n) i
  from_last n i least true free h =
      take_last n i (λ k high. elim (cases_Bool (precedes k n)) [
        | inl t ↦ absurd (both_ways (precedes k i) (free_none n precedes i k free high) (transitive k n i t h))
        | inr f ↦ f
      ]) h
  from_last n i least false held h = let some = not_free n precedes i held in from_least n i (least i some.0 some.1 some.2)

  -- where something comes before a node, something free does
  has_least : (n : ℕ) → HasLeast n
  has_least zero i k high h = absurd (omega arith)
  has_least (suc n) i k high h = elim (cases_lt k n) [
    | inl less ↦ from_least n i (has_least n i k less h)
    | inr other ↦ (let same : k ≡ n = omega arith in from_last n i (has_least n) (is_free n precedes i) refl (subst (λ x. precedes x i ≡ true) same h))
  ]

  -- a node with none before it is free
  is_free_from : (n i : ℕ) → ((k : ℕ) → k < n → precedes k i ≡ false) → is_free n precedes i ≡ true
  is_free_from n i none = elim (cases_Bool (is_free n precedes i)) [
    | inl t ↦ t
    | inr f ↦ (let some = not_free n precedes i f in absurd (both_ways _ (none some.0 some.1) some.2))
  ]

  -- some free node is before a node that is not free
  pub free_before : (n i : ℕ) → is_free n precedes i ≡ false → (j : ℕ) × (j < n) × (is_free n precedes j ≡ true) × (precedes j i ≡ true)
  free_before n i held =
      let some = not_free n precedes i held in
      let least = has_least n i some.0 some.1 some.2 in
      (least.0, least.1, is_free_from n least.0 least.3, least.2)
