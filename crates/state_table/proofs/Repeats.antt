-- Numbers in another order and without repeats pass the same tests.
use Rattle.std.proofs.Common.{◌≡◌, ◌∙◌, ℕ, Bool, true, false, ◌&&◌, cond, List, [], ◌∷◌, refl, sym, ap}
use Rattle.std.specs.Prelude.{nat_eq}
use Rattle.std.specs.Cmp.{both_ways, unsigned_Decides}
use Rattle.std.specs.List.{list_all, dedup, dedup_from}
use Rattle.std.specs.List.Sorted.{IsPermutation}
use Rattle.std.proofs.lemmas.List.Sorted.{All-permutation, IsPermutation-sym}
use Rattle.std.proofs.lemmas.List.Sums.{AllPass-from_list_all, list_all-from_AllPass}

module _ (test : ℕ → Bool) where
  -- in another order
  pub reordered_pass : (xs ys : List ℕ) → IsPermutation xs ys → list_all test ys ≡ list_all test xs
  reordered_pass xs ys moved =
      both_ways _ _
      (λ all. list_all-from_AllPass test xs (All-permutation (λ x. test x ≡ true) ys xs (IsPermutation-sym xs ys moved) (AllPass-from_list_all test ys all)))
      (λ all. list_all-from_AllPass test ys (All-permutation (λ x. test x ≡ true) xs ys moved (AllPass-from_list_all test xs all)))

  -- one that stands twice counts once
  twice : (a b : Bool) → (a && b) ≡ (a && (a && b))
  twice true b = refl
  twice false b = refl

  -- without those that are as the one before
  once_from : (k : ℕ) (xs : List ℕ) → list_all test (dedup_from nat_eq k xs) ≡ (test k && list_all test xs)
  once_from k [] = refl
  once_from k (x ∷ xs) =
      elim (nat_eq x k) as (λ b. nat_eq x k ≡ b → list_all test (cond b (dedup_from nat_eq k xs) (k ∷ dedup_from nat_eq x xs)) ≡ (test k && (test x && list_all test xs))) [
        | true ↦ λ same.
            once_from k xs
            ∙ twice (test k) (list_all test xs)
            ∙ ap (λ y. test k && (test y && list_all test xs)) (sym ((unsigned_Decides x k).0 same))
        | false ↦ λ _. ap (λ b. test k && b) (once_from x xs)
      ] refl

  -- without repeats
  pub once_pass : (xs : List ℕ) → list_all test (dedup nat_eq xs) ≡ list_all test xs
  once_pass [] = refl
  once_pass (x ∷ xs) = once_from x xs
