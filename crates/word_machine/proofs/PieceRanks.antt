-- The successors of ranges of ranks, laid end to end.
use Rattle.std.proofs.Common.{◌≡◌, ℕ, zero, suc, ◌+◌, ◌-◌, ◌<◌, ◌≤◌, ◌⊎◌, inl, inr, ⊎_elim, Some, slice_get, List, [], ◌∷◌, ◌++◌, length, get_or, refl, sym, ap₂, ◌∙◌, subst, arith, length-append}
use mathlib.Core.List.{append-nil}
use Rattle.std.proofs.lemmas.List.Concat.{flat_map-append}
use Rattle.std.proofs.lemmas.Option.{slice_get-get_or}
use Rattle.word_machine.specs.Level.{AreSuccessors}

-- what stands in two lists end to end stands in one of them
pub get_appended : {X : Type 0} (xs ys : List X) (i : ℕ) (x : X) → slice_get (xs ++ ys) i ≡ Some x → (slice_get xs i ≡ Some x) ⊎ ((j : ℕ) × (i ≡ length xs + j) × (slice_get ys j ≡ Some x))
get_appended [] ys i x h = inr (i, omega arith, h)
get_appended (y ∷ xs) ys zero x h = inl h
get_appended (y ∷ xs) ys (suc i) x h = ⊎_elim (λ here. inl here) (λ later. inr (later.0, omega (arith, later.1), later.2)) (get_appended xs ys i x h)

module _ {S : Type 0} (has_successors : ℕ → List S → Type 0) where
  -- an empty range of ranks has no successors
  pub no_ranks : (first : ℕ) → AreSuccessors has_successors first first []
  no_ranks first = record {
    lists = [];
    count = omega arith;
    of_rank = λ i xs h. absurd (cc);
    joined = refl;
  }

  -- the successors of one rank are those of its range
  pub one_rank : (rank : ℕ) (more : List S) → has_successors rank more → AreSuccessors has_successors rank (rank + 1) more
  one_rank rank more here = record {
    lists = more ∷ [];
    count = omega arith;
    of_rank = only;
    joined = sym (append-nil more);
  }
    where
      only : (i : ℕ) (xs : List S) → slice_get (more ∷ []) i ≡ Some xs → has_successors (rank + i) xs
      only zero xs h = let same : more ≡ xs = cc in let at : rank ≡ rank + 0 = omega arith in subst (λ r. has_successors r xs) at (subst (has_successors rank) same here)
      only (suc i) xs h = absurd (cc)

  -- successors of two adjoining ranges are, one after the other, those of both
  pub both_ranges : (first middle last : ℕ) (xs ys : List S) → AreSuccessors has_successors first middle xs → AreSuccessors has_successors middle last ys → AreSuccessors has_successors first last (xs ++ ys)
  both_ranges first middle last xs ys one two = record {
    lists = one.lists ++ two.lists;
    count = let long = length-append one.lists two.lists in let a = one.count in let b = two.count in omega arith;
    of_rank = λ i zs h. ⊎_elim (λ here. one.of_rank i zs here)
        (λ later. let a = one.count in let b = later.1 in let at : middle + later.0 ≡ first + i = omega arith in subst (λ r. has_successors r zs) at (two.of_rank later.0 zs later.2))
        (get_appended one.lists two.lists i zs h);
    joined = ap₂ (λ x y. x ++ y) one.joined two.joined ∙ sym (flat_map-append (λ (x : List S). x) one.lists two.lists);
  }

  -- a range and the successors of the rank after it make the range with that rank
  pub one_more : (first rank : ℕ) (xs more xs' : List S) → AreSuccessors has_successors first rank xs → has_successors rank more → xs' ≡ xs ++ more → AreSuccessors has_successors first (rank + 1) xs'
  one_more first rank xs more xs' so_far here is = subst (AreSuccessors has_successors first (rank + 1)) (sym is) (both_ranges first rank (rank + 1) xs more so_far (one_rank rank more here))

  -- each of the ranks has its successors
  pub of_each : (first last : ℕ) (xs : List S) → AreSuccessors has_successors first last xs → (rank : ℕ) → first ≤ rank → rank < last → (ys : List S) × has_successors rank ys
  of_each first last xs all rank from below =
      let i : ℕ = rank - first in
      let long = all.count in
      let inside : i < length all.lists = omega arith in
      let at : first + i ≡ rank = omega arith in
      (get_or all.lists i [], subst (λ r. has_successors r (get_or all.lists i [])) at (all.of_rank i (get_or all.lists i []) (slice_get-get_or all.lists i [] inside)))
