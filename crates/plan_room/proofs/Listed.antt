-- Members that are collected one by one.
use Rattle.std.proofs.Common.{◌≡◌, ℕ, ◌≤◌, List, map, length, take, IsPermutation, sym, subst, ap, ◌∙◌}
use Rattle.std.proofs.lemmas.List.{take_all}
use Rattle.std.proofs.lemmas.List.Sorted.{IsPermutation-map}

-- numbers beside others are in the others' order
pub second_reordered : (xs list : List ℕ) (pairs sorted : List (ℕ × ℕ)) (n i : ℕ) → map (λ p. p.1) pairs ≡ take n xs → length xs ≤ n → IsPermutation pairs sorted
    → list ≡ map (λ p. p.1) (take i sorted) → length sorted ≤ i → IsPermutation xs list
second_reordered xs list pairs sorted n i e past same f all =
    subst (IsPermutation xs) (sym (f ∙ ap (map (λ p. p.1)) (take_all i sorted all)))
    (subst (λ ys. IsPermutation ys (map (λ p. p.1) sorted)) (e ∙ take_all n xs past) (IsPermutation-map (λ p. p.1) pairs sorted same))
