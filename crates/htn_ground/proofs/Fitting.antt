-- Numbers that may be too great for 64 bits.
use Rattle.std.proofs.Common.{◌≡◌, ◌∙◌, ◌+◌, ◌++◌, ◌-◌, ◌<◌, ◌≤◌, ◌^◌, ◌∷◌, [], Bool, List, None, Option, Some, ap, append_assoc, arith, cond, drop, false, get_or, length, length-append, ltb, map, refl, sym, take, true, ℕ}
use Rattle.std.specs.List.{flat_map}
use Rattle.std.proofs.lemmas.Bool.Decides.{nat_tests}
use Rattle.std.proofs.lemmas.List.{map-append}
use Rattle.htn_model.specs.State.{State}
use Rattle.htn_ground.specs.declared.fixed.FixedLiteral.{FixedLiteral}
use Rattle.htn_ground.specs.declared.relation.Relation.{Relation}
use Rattle.htn_ground.specs.Counted.{fitted, fitting}
use Rattle.htn_ground.specs.Search.{completions, is_ruled_out_so_far, live_from}
use Rattle.htn_ground.proofs.Counting.{live_more}
use Rattle.htn_ground.proofs.Lists.{flat_map_more}
use Rattle.htn_ground.proofs.Skipped.{live_skip}

-- a smaller number, as a test
is_below : (m n : ℕ) → m < n → ltb m n ≡ true
is_below m n h = grind (arith, nat_tests)

-- one that is no smaller, as a test
is_past : (m n : ℕ) → n ≤ m → ltb m n ≡ false
is_past m n h = grind (arith, nat_tests)

-- what the test says of a smaller number
below : (m n : ℕ) → ltb m n ≡ true → m < n
below m n e = grind (arith, nat_tests)

-- and of one that is no smaller
past : (m n : ℕ) → ltb m n ≡ false → n ≤ m
past m n e = grind (arith, nat_tests)

-- a number of 64 bits fits
pub fits : (n : ℕ) → n < 2 ^ 64 → fitting n ≡ Some n
fits n h = ap (λ b. cond b (Some n) None) (is_below n (2 ^ 64) h)

-- a greater one does not
pub misfits : (n : ℕ) → 2 ^ 64 ≤ n → fitting n ≡ None
misfits n h = ap (λ b. cond b (Some n) None) (is_past n (2 ^ 64) h)

-- the number that a choice gives
some_by : (b : Bool) (m n : ℕ) → Some m ≡ cond b (Some n) None → m ≡ n
some_by true m n e = cc
some_by false m n e = absurd cc

-- where a number is known, it is that
pub fitting_some : (m n : ℕ) → Some m ≡ fitting n → m ≡ n
fitting_some m n e = some_by (ltb n (2 ^ 64)) m n e

-- a number that doesn't fit is past 64 bits
none_by : (b : Bool) (n : ℕ) → ltb n (2 ^ 64) ≡ b → None ≡ cond b (Some n) None → 2 ^ 64 ≤ n
none_by true n is e = absurd cc
none_by false n is e = past n (2 ^ 64) is

-- where none is known, it does not fit
pub fitting_none : (n : ℕ) → None ≡ fitting n → 2 ^ 64 ≤ n
fitting_none n e = none_by (ltb n (2 ^ 64)) n refl e

-- a loop's step: what one more item gives is added
pub fitting_more : (f : ℕ → List (List ℕ)) (objects : List ℕ) (i item : ℕ) (next : Option ℕ) → i < length objects → item ≡ get_or objects i item
    → next ≡ fitting (length (flat_map f (take i objects)) + length (f item)) → next ≡ fitting (length (flat_map f (take (i + 1) objects)))
fitting_more f objects i item next below is counted =
    counted ∙ ap fitting (sym (length-append (flat_map f (take i objects)) (f item)) ∙ ap length (sym (flat_map_more f objects i item below is)))

-- ## Live choices with their numbers

-- what is found so far, and then more of it
pub fitted_join : (start done new : List (Option ℕ × List ℕ)) (before here all : List (ℕ × List ℕ)) → done ≡ start ++ map fitted before → new ≡ done ++ map fitted here
    → before ++ here ≡ all → new ≡ start ++ map fitted all
fitted_join start done new before here all so_far pushed whole =
    pushed ∙ ap (λ l. l ++ map fitted here) so_far ∙ append_assoc start (map fitted before) (map fitted here)
    ∙ ap (λ l. start ++ l) (sym (map-append fitted before here) ∙ ap (map fitted) whole)

module _ (state : State) (literals : List FixedLiteral) where
  -- the live choices by one more item, and how many choices there are then
  pub one_more : (f : ℕ → List (List ℕ)) (objects : List ℕ) (i item first : ℕ) → i < length objects → item ≡ get_or objects i 0
      → (live_from state literals first (flat_map f (take i objects)) ++ live_from state literals (first + length (flat_map f (take i objects))) (f item)
      ≡ live_from state literals first (flat_map f (take (i + 1) objects)))
      × (first + length (flat_map f (take i objects)) + length (f item) ≡ first + length (flat_map f (take (i + 1) objects)))
  one_more f objects i item first below is = live_more state literals f objects i item first _ _ [] _ _ below is refl refl refl refl

  -- a run that is ruled out is counted and gives nothing
  pub run_skipped : (domains : List (List ℕ)) (relations : List Relation) (values objects : List ℕ) (from to first : ℕ) → from ≤ to → to ≤ length objects
      → ((k d : ℕ) → from ≤ k → k < to → is_ruled_out_so_far state literals (values ++ get_or objects k d ∷ []) ≡ true)
      → let pieces : ℕ → List (List ℕ) = λ o. completions domains relations (values ++ o ∷ []) in
      (live_from state literals first (flat_map pieces (take from objects)) ≡ live_from state literals first (flat_map pieces (take to objects)))
      × (first + length (flat_map pieces (take from objects)) + length (flat_map pieces (take (to - from) (drop from objects))) ≡ first + length (flat_map pieces (take to objects)))
  run_skipped domains relations values objects from to first order small dead =
      live_skip state literals domains relations values objects from to first _ _ _ [] _ order small dead refl refl refl refl
