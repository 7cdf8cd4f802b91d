-- Elements of filtered and joined lists, and literals among those that hold.
use Rattle.std.proofs.Common.{◌≡◌, ℕ, zero, suc, ◌+◌, ◌<◌, ◌≤◌, Bool, true, false, cond, ◌&&◌, ◌||◌, List, [], ◌∷◌, length, get_or, take, filter, All, Contains, ◌⊎◌, inl, inr, refl, sym, ap, ◌∙◌, subst, arith}
use Rattle.std.specs.List.{flat_map, list_any, list_all, range_with_len}
use Rattle.std.proofs.lemmas.Bool.{and_parts, both_ways, cases_lt}
use Rattle.std.proofs.lemmas.List.{take_all}
use Rattle.std.proofs.lemmas.List.Elements.{All-more, Contains-append_cases, Contains-append_left, Contains-append_right}

-- no list without elements has one
pub contains_none : {X : Type 0} (x : X) → Contains [] x → ⊥
contains_none x at = let low = at.1 in omega (arith, low)

-- an element is the first or one of the others
pub contains_cases : {X : Type 0} (y : X) (xs : List X) (x : X) → Contains (y ∷ xs) x → (y ≡ x) ⊎ Contains xs x
contains_cases y xs x (zero, low, is) = inl is
contains_cases y xs x (suc k, low, is) = inr (k, omega arith, is)

-- the first is an element
pub contains_first : {X : Type 0} (y : X) (xs : List X) (x : X) → y ≡ x → Contains (y ∷ xs) x
contains_first y xs x is = (0, omega arith, is)

-- so is each of the others
pub contains_later : {X : Type 0} (y : X) (xs : List X) (x : X) → Contains xs x → Contains (y ∷ xs) x
contains_later y xs x at = (suc at.0, (let low = at.1 in omega (arith, low)), at.2)

module _ {X : Type 0} (test : X → Bool) where
  -- what a filter keeps was there and passes
  pub filtered : (xs : List X) (x : X) → Contains (filter test xs) x → Contains xs x × (test x ≡ true)
  filtered [] x at = absurd (contains_none x at)
  filtered (y ∷ xs) x at = by (test y) refl at (filtered xs x)
    where
      by : (b : Bool) → test y ≡ b → Contains (cond b (y ∷ filter test xs) (filter test xs)) x
          → (Contains (filter test xs) x → Contains xs x × (test x ≡ true)) → Contains (y ∷ xs) x × (test x ≡ true)
      by true e at others = elim (contains_cases y (filter test xs) x at) [
        | inl is ↦ (contains_first y xs x is, sym (ap test is) ∙ e)
        | inr more ↦ (let rest = others more in (contains_later y xs x rest.0, rest.1))
      ]
      by false e at others = let rest = others at in (contains_later y xs x rest.0, rest.1)

  -- what was there and passes is kept
  pub kept : (xs : List X) (x : X) → Contains xs x → test x ≡ true → Contains (filter test xs) x
  kept [] x at passes = absurd (contains_none x at)
  kept (y ∷ xs) x at passes = by (test y) refl (contains_cases y xs x at) (λ more. kept xs x more passes)
    where
      by : (b : Bool) → test y ≡ b → (y ≡ x) ⊎ Contains xs x → (Contains xs x → Contains (filter test xs) x) → Contains (cond b (y ∷ filter test xs) (filter test xs)) x
      by true e (inl is) others = contains_first y (filter test xs) x is
      by true e (inr more) others = contains_later y (filter test xs) x (others more)
      by false e (inl is) others = absurd (both_ways (test x) (sym (ap test is) ∙ e) passes)
      by false e (inr more) others = others more

  -- where none passes no element does
  pub none_passes : (xs : List X) (x : X) → list_any test xs ≡ false → Contains xs x → test x ≡ false
  none_passes [] x none at = absurd (contains_none x at)
  none_passes (y ∷ xs) x none at = by (test y) refl none (contains_cases y xs x at) (none_passes xs x)
    where
      by : (b : Bool) → test y ≡ b → (b || list_any test xs) ≡ false → (y ≡ x) ⊎ Contains xs x → (list_any test xs ≡ false → Contains xs x → test x ≡ false) → test x ≡ false
      by true e none at others = absurd cc
      by false e none (inl is) others = sym (ap test is) ∙ e
      by false e none (inr more) others = others none more

  -- where no element passes none does
  pub none_from : (xs : List X) → ((x : X) → Contains xs x → test x ≡ false) → list_any test xs ≡ false
  none_from [] each = refl
  none_from (y ∷ xs) each =
      let first = each y (contains_first y xs y refl) in
      ap (λ b. b || list_any test xs) first ∙ none_from xs (λ x at. each x (contains_later y xs x at))

  -- where all pass each does
  pub each_passes : (xs : List X) (x : X) → list_all test xs ≡ true → Contains xs x → test x ≡ true
  each_passes [] x all at = absurd (contains_none x at)
  each_passes (y ∷ xs) x all at =
      let parts = and_parts (test y) (list_all test xs) all in
      elim (contains_cases y xs x at) [
        | inl is ↦ sym (ap test is) ∙ parts.0
        | inr more ↦ each_passes xs x parts.1 more
      ]

  -- where each passes all do
  pub all_from : (xs : List X) → ((x : X) → Contains xs x → test x ≡ true) → list_all test xs ≡ true
  all_from [] each = refl
  all_from (y ∷ xs) each =
      ap (λ b. b && list_all test xs) (each y (contains_first y xs y refl)) ∙ all_from xs (λ x at. each x (contains_later y xs x at))

-- what is in joined lists is in one of them
pub joined : {X Y : Type 0} (f : X → List Y) (xs : List X) (y : Y) → Contains (flat_map f xs) y → (x : X) × Contains xs x × Contains (f x) y
joined f [] y at = absurd (contains_none y at)
joined f (x ∷ xs) y at = elim (Contains-append_cases (f x) (flat_map f xs) y at) [
  | inl here ↦ (x, contains_first x xs x refl, here)
  | inr later ↦ (let rest = joined f xs y later in (rest.0, contains_later x xs rest.0 rest.1, rest.2))
]

-- what is in one of them is in the joined list
pub join : {X Y : Type 0} (f : X → List Y) (xs : List X) (x : X) (y : Y) → Contains xs x → Contains (f x) y → Contains (flat_map f xs) y
join f [] x y there at = absurd (contains_none x there)
join f (z ∷ xs) x y there at = elim (contains_cases z xs x there) [
  | inl is ↦ Contains-append_left (f z) (flat_map f xs) y (subst (λ w. Contains (f w) y) (sym is) at)
  | inr more ↦ Contains-append_right (f z) (flat_map f xs) y (join f xs x y more at)
]

-- the numbers of a range
pub in_range : (a n i : ℕ) → Contains (range_with_len a n) i → (a ≤ i) × (i < a + n)
in_range a zero i at = absurd (contains_none i at)
in_range a (suc n) i at = elim (contains_cases a (range_with_len (a + 1) n) i at) [
  | inl is ↦ (omega arith, omega arith)
  | inr more ↦ (let rest = in_range (a + 1) n i more in (omega arith, omega arith))
]

-- each number of the range is there
pub range_has : (a n i : ℕ) → a ≤ i → i < a + n → Contains (range_with_len a n) i
range_has a zero i low high = absurd (omega arith)
range_has a (suc n) i low high = elim (cases_lt a i) [
  | inl less ↦ contains_later a (range_with_len (a + 1) n) i (range_has (a + 1) n i (omega arith) (omega arith))
  | inr same ↦ contains_first a (range_with_len (a + 1) n) i (omega arith)
]

-- one more element of which it holds
pub all_more : {X : Type 0} (P : X → Type 0) (xs : List X) (i : ℕ) (x : X) → i < length xs → x ≡ get_or xs i x → All P (take i xs) → P x → All P (take (i + 1) xs)
all_more P xs i x low is all here = All-more P xs i x low all (subst P is here)

-- it holds of all once all were taken
pub all_taken : {X : Type 0} (P : X → Type 0) (xs : List X) (i : ℕ) → length xs ≤ i → All P (take i xs) → All P xs
all_taken P xs i past all = subst (All P) (take_all i xs past) all
