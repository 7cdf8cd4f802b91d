-- Tests of the elements of lists, and of lists with others in one element's place.
use Rattle.std.proofs.Common.{◌≡◌, ℕ, zero, suc, ◌+◌, ◌<◌, ◌≤◌, Bool, true, false, ◌&&◌, ◌||◌, List, [], ◌∷◌, ◌++◌, length, get_or, take, drop, All, Contains, ◌⊎◌, inl, inr, refl, sym, ap, ◌∙◌, subst, arith}
use Rattle.std.specs.List.{list_all, list_any}
use Rattle.std.proofs.lemmas.Bool.{and_parts}
use Rattle.std.proofs.lemmas.List.{take_all}
use Rattle.std.proofs.lemmas.List.Elements.{All-more}
use Rattle.std.proofs.lemmas.List.Folds.{list_all-append, list_any-append}
use Rattle.htn_model.specs.Choice.{splice}
use Rattle.htn_model.proofs.Splices.{split_at}

-- no list without elements has one
contains_none : {X : Type 0} (x : X) → Contains [] x → ⊥
contains_none x at = let low = at.1 in omega (arith, low)

-- an element is the first or one of the others
contains_cases : {X : Type 0} (y : X) (xs : List X) (x : X) → Contains (y ∷ xs) x → (y ≡ x) ⊎ Contains xs x
contains_cases y xs x (zero, low, is) = inl is
contains_cases y xs x (suc k, low, is) = inr (k, omega arith, is)

-- the first is an element
contains_first : {X : Type 0} (y : X) (xs : List X) → Contains (y ∷ xs) y
contains_first y xs = (0, omega arith, refl)

-- so is each of the others
contains_later : {X : Type 0} (y : X) (xs : List X) (x : X) → Contains xs x → Contains (y ∷ xs) x
contains_later y xs x at = (suc at.0, (let low = at.1 in omega (arith, low)), at.2)

-- four tests in another order
or_swap : (a b c d : Bool) → ((a || b) || (c || d)) ≡ ((a || c) || (b || d))
or_swap true b c d = refl
or_swap false true true d = refl
or_swap false true false d = refl
or_swap false false c d = refl

module _ {X : Type 0} (test : X → Bool) where
  -- where all pass each does
  pub each_passes : (xs : List X) (x : X) → list_all test xs ≡ true → Contains xs x → test x ≡ true
  each_passes [] x all at = absurd (contains_none x at)
  each_passes (y ∷ xs) x all at =
      let parts = and_parts (test y) (list_all test xs) all in
      elim (contains_cases y xs x at) [
        | inl is ↦ sym (ap test is) ∙ parts.0
        | inr more ↦ each_passes xs x parts.1 more
      ]

  -- where each passes all do
  pub all_from : (xs : List X) → ((x : X) → Contains xs x → test x ≡ true) → list_all test xs ≡ true
  all_from [] each = refl
  all_from (y ∷ xs) each =
      ap (λ b. b && list_all test xs) (each y (contains_first y xs)) ∙ all_from xs (λ x at. each x (contains_later y xs x at))

  -- one passes before an element, or it does, or one after it
  pub any_split : (i : ℕ) (xs : List X) (d : X) → i < length xs → list_any test xs ≡ (list_any test (take i xs) || (test (get_or xs i d) || list_any test (drop (suc i) xs)))
  any_split i xs d low = ap (list_any test) (split_at i xs d low) ∙ list_any-append test (take i xs) (get_or xs i d ∷ drop (suc i) xs)

  -- with others in its place one of those may
  pub any_splice : (i : ℕ) (ys xs : List X) → list_any test (splice i ys xs) ≡ (list_any test (take i xs) || (list_any test ys || list_any test (drop (suc i) xs)))
  any_splice i ys xs =
      list_any-append test (take i xs) (ys ++ drop (suc i) xs) ∙ ap (λ b. list_any test (take i xs) || b) (list_any-append test ys (drop (suc i) xs))

  -- all pass where those before an element do, it does, and those after it do
  pub all_split : (i : ℕ) (xs : List X) (d : X) → i < length xs → list_all test xs ≡ (list_all test (take i xs) && (test (get_or xs i d) && list_all test (drop (suc i) xs)))
  all_split i xs d low = ap (list_all test) (split_at i xs d low) ∙ list_all-append test (take i xs) (get_or xs i d ∷ drop (suc i) xs)

  -- with others in its place those have to
  pub all_splice : (i : ℕ) (ys xs : List X) → list_all test (splice i ys xs) ≡ (list_all test (take i xs) && (list_all test ys && list_all test (drop (suc i) xs)))
  all_splice i ys xs =
      list_all-append test (take i xs) (ys ++ drop (suc i) xs) ∙ ap (λ b. list_all test (take i xs) && b) (list_all-append test ys (drop (suc i) xs))

-- one passes one of two tests where one passes the first or one the second
pub any_or : {X : Type 0} (test other : X → Bool) (xs : List X) → list_any (λ x. test x || other x) xs ≡ (list_any test xs || list_any other xs)
any_or test other [] = refl
any_or test other (x ∷ xs) =
    ap (λ b. (test x || other x) || b) (any_or test other xs) ∙ or_swap (test x) (other x) (list_any test xs) (list_any other xs)

-- one more element of which it holds
pub all_more : {X : Type 0} (P : X → Type 0) (xs : List X) (i : ℕ) (x : X) → i < length xs → x ≡ get_or xs i x → All P (take i xs) → P x → All P (take (i + 1) xs)
all_more P xs i x low is all here = All-more P xs i x low all (subst P is here)

-- it holds of all once all were taken
pub all_taken : {X : Type 0} (P : X → Type 0) (xs : List X) (i : ℕ) → length xs ≤ i → All P (take i xs) → All P xs
all_taken P xs i past all = subst (All P) (take_all i xs past) all
