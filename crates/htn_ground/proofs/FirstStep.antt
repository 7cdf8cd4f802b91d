-- The order with a new first position, row by row.
use Rattle.std.proofs.Common.{◌≡◌, ◌+◌, ◌-◌, ◌<◌, ◌≤◌, ◌∙◌, ◌&&◌, Bool, [], ◌∷◌, ap, arith, cond, eqb, false, get_or, length, ltb, map, refl, subst, suc, sym, true, zero, ℕ, ⊎_elim}
use Rattle.std.proofs.lemmas.Bool.{cases_lt}
use Rattle.std.proofs.lemmas.Bool.Decides.{nat_tests}
use Rattle.htn_model.specs.Problem.{IsSquare, Order, is_before}
use Rattle.htn_model.specs.Instances.{step_first}
use Rattle.htn_model.proofs.Grounded.{first_row, in_square, later_row, never_first, step_square}
use Rattle.htn_model.proofs.Splices.{same_order, table_square}
use Rattle.htn_order.specs.Shapes.{is_before_with_first, with_first}
use Rattle.htn_order.proofs.Tables.{entry}

-- a row of true ones is false past its end
past_first_row : (order : Order) (b : ℕ) → length order ≤ b → get_or (map (λ row. true) order) b false ≡ false
past_first_row [] b h = refl
past_first_row (row ∷ order) zero h = absurd (omega arith)
past_first_row (row ∷ order) (suc b) h = past_first_row order b (omega arith)

-- a position that is before another is one of the order
in_rows : (order : Order) (a b : ℕ) → is_before order a b ≡ true → a < length order
in_rows [] a b h = absurd cc
in_rows (row ∷ order) zero b h = omega arith
in_rows (row ∷ order) (suc a) b h = let k : a < length order = in_rows order a b h in omega arith

-- nothing is so where the last part is false
never : (p q : Bool) → (p && (q && false)) ≡ false
never true true = refl
never true false = refl
never false q = refl

-- what the last part says, where the others are so
both : (p q v : Bool) → p ≡ true → q ≡ true → (p && (q && v)) ≡ v
both p q v e f = λ i. e i && (f i && v)

-- the new first position is before all others
at_first : (order : Order) (b : ℕ) → is_before_with_first order 0 (suc b) ≡ true
at_first order b = let e : eqb (suc b) 0 ≡ false = grind (arith, nat_tests) in ap (λ t. cond t false true) e

-- the others keep their order
at_later : (order : Order) (a b : ℕ) → is_before_with_first order (suc a) (suc b) ≡ is_before order a b
at_later order a b =
    let e : eqb (suc b) 0 ≡ false = grind (arith, nat_tests) in
    let f : eqb (suc a) 0 ≡ false = grind (arith, nat_tests) in
    let s : suc a - 1 ≡ a = omega arith in
    let t : suc b - 1 ≡ b = omega arith in
    λ i. cond (e i) false (cond (f i) true (is_before order (s i) (t i)))

-- one position further on is within one more
within : (n k : ℕ) → k < n → ltb (suc k) (n + 1) ≡ true
within n k h = grind (arith, nat_tests)

-- and past it where it was past
beyond : (n k : ℕ) → n ≤ k → ltb (suc k) (n + 1) ≡ false
beyond n k h = grind (arith, nat_tests)

-- there is a first position
some_first : (n : ℕ) → ltb 0 (n + 1) ≡ true
some_first n = grind (arith, nat_tests)

-- what is before another is within the table
kept : (order : Order) → IsSquare (length order) order → (a b : ℕ) (v : Bool) → is_before order a b ≡ v
    → (ltb (suc a) (length order + 1) && (ltb (suc b) (length order + 1) && v)) ≡ v
kept order square a b true h = both _ _ true (within (length order) a (in_rows order a b h)) (within (length order) b (in_square (length order) order a b square.1 h))
kept order square a b false h = never _ _

-- the two orders have the same entries
same_entries : (order : Order) → IsSquare (length order) order → (a b : ℕ) → is_before (with_first order) a b ≡ is_before (step_first order) a b
same_entries order square zero zero = entry (length order + 1) (is_before_with_first order) 0 0 ∙ never _ _
same_entries order square zero (suc b) =
    entry (length order + 1) (is_before_with_first order) 0 (suc b)
    ∙ ap (λ v. ltb 0 (length order + 1) && (ltb (suc b) (length order + 1) && v)) (at_first order b)
    ∙ ⊎_elim
    (λ below. both _ _ true (some_first (length order)) (within (length order) b below) ∙ sym (first_row order b below))
    (λ past. ap (λ q. ltb 0 (length order + 1) && (q && true)) (beyond (length order) b past) ∙ ap (λ p. p && false) (some_first (length order)) ∙ sym (past_first_row order b past))
    (cases_lt b (length order))
same_entries order square (suc a) zero = entry (length order + 1) (is_before_with_first order) (suc a) 0 ∙ never _ _ ∙ sym (never_first order a)
same_entries order square (suc a) (suc b) =
    entry (length order + 1) (is_before_with_first order) (suc a) (suc b)
    ∙ ap (λ v. ltb (suc a) (length order + 1) && (ltb (suc b) (length order + 1) && v)) (at_later order a b)
    ∙ kept order square a b (is_before order a b) refl
    ∙ sym (later_row order a b)

-- so they are one
pub with_first_is : (order : Order) → IsSquare (length order) order → with_first order ≡ step_first order
with_first_is order square =
    let more : suc (length order) ≡ length order + 1 = omega arith in
    same_order (length order + 1) (with_first order) (step_first order) (table_square (length order + 1) (is_before_with_first order))
    (subst (λ (n : ℕ). IsSquare n (step_first order)) more (step_square (length order) order square)) (same_entries order square)
