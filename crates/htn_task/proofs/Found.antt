-- What a binary search in an ascending list of numbers finds.
use Rattle.std.proofs.Common.{◌≡◌, ◌+◌, ◌∙◌, Err, List, Ok, Result, ap, arith, false, get_or, length, nat_eq, refl, sym, ⊎_elim, ℕ}
use Rattle.std.specs.Prelude.{is_ok}
use Rattle.std.specs.List.{AllWithin, list_any}
use Rattle.std.specs.List.Sorted.{IsBinarySearchResult, IsSearchInRange, IsSortedBy, IsStrictlySortedBy}
use Rattle.std.specs.declared.cmp.Ordering.{Ordering}
use Rattle.std.specs.declared.cmp.Ordering.TheVariants.{Greater, Less}
use Rattle.std.specs.Ordering.{is_eq, is_lt, nat_cmp, ordering_reverse}
use Rattle.std.specs.Cmp.{nat_cmp_total, tied_back, unsigned_ties}
use Rattle.std.proofs.lemmas.List.Folds.{list_any_at, list_any_none}
use Rattle.std.proofs.lemmas.List.Sorted.{searchable_from_sorted}
use Rattle.std.proofs.lemmas.Map.Keys.{Less-from_sorted}
use Rattle.std.proofs.lemmas.Bool.{cases_lt}

-- numbers that ascend are sorted for a search
sorted_ties : (xs : List ℕ) → IsStrictlySortedBy nat_cmp xs → IsSortedBy (λ a b. is_lt (nat_cmp a b)) xs
sorted_ties xs sorted k d low high =
    ap is_lt (nat_cmp_total.antisymm (get_or xs (k + 1) d) (get_or xs k d) ∙ ap ordering_reverse (Less-from_sorted nat_cmp xs k (k + 1) d sorted (omega arith) high))

-- the search finds a number exactly where the list has it
pub found : (xs : List ℕ) (q : ℕ) (r : Result ℕ ℕ) → IsStrictlySortedBy nat_cmp xs
    → IsSearchInRange r (length xs) → IsBinarySearchResult (λ y. nat_cmp y q) xs r → is_ok r ≡ list_any (nat_eq q) xs
found xs q (Ok i) sorted range at =
    sym (list_any_at (nat_eq q) xs i q range (unsigned_ties q (get_or xs i q) ∙ ap is_eq (tied_back nat_cmp_total (get_or xs i q) q (at q))))
found xs q (Err i) sorted range at =
    let split : AllWithin (λ y. nat_cmp y q ≡ Less) xs 0 i × AllWithin (λ y. nat_cmp y q ≡ Greater) xs i (length xs)
    = at (searchable_from_sorted nat_cmp_total (λ a. a) xs q (sorted_ties xs sorted)) in
    sym (list_any_none (nat_eq q) xs (λ k d below. ⊎_elim
    (λ before. apart _ Less (split.0 k d (omega arith) before) refl)
    (λ after. apart _ Greater (split.1 k d after below) refl)
    (cases_lt k i)))
  where
    apart : (y : ℕ) (o : Ordering) → nat_cmp y q ≡ o → is_eq (ordering_reverse o) ≡ false → nat_eq q y ≡ false
    apart y o e h = unsigned_ties q y ∙ ap is_eq (nat_cmp_total.antisymm q y ∙ ap ordering_reverse e) ∙ h
