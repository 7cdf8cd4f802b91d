-- A table that is filled entry by entry, and row by row.
use Rattle.std.proofs.Common.{◌≡◌, ◌≢◌, ℕ, ◌+◌, Bool, true, false, eqb, ltb, ◌||◌, ◌&&◌, inl, inr, refl, sym, ap, ap₂, ◌∙◌, subst, arith}
use Rattle.std.proofs.lemmas.Bool.{cases_lt, cases_eq, eq-eqb, ne_eqb, lt-ltb, le-ltb}
use Rattle.htn_model.specs.Problem.{Order, is_before, IsSquare}
use Rattle.htn_model.specs.Machine.{table}
use Rattle.htn_model.proofs.Splices.{table_square, same_order}
use Rattle.htn_order.specs.Shapes.{unordered, IsRowAdded}
use Rattle.htn_order.proofs.Tables.{entry}

-- with what is asked and fails, either is the other
or_nothing : (p e : Bool) → (p || (e && false)) ≡ p
or_nothing true e = refl
or_nothing false true = refl
or_nothing false false = refl

-- to ask again adds what holds
or_again : (p e : Bool) → ((p || (e && false)) || (e && true)) ≡ (p || (e && true))
or_again true e = refl
or_again false true = refl
or_again false false = refl

-- before a row is filled nothing is added
pub row_start : (test : ℕ → ℕ → Bool) (a : ℕ) (order : Order) → IsRowAdded test a 0 order order
row_start test a order x y =
    sym (ap (λ p. is_before order x y || (eqb x a && (p && test a y))) (le-ltb y 0 (omega arith)) ∙ or_nothing (is_before order x y) (eqb x a))

-- whether an entry is among the first k is the same for the first k + 1, save for k itself
ltb_more : (y k : ℕ) → (y ≡ k → ⊥) → ltb y (k + 1) ≡ ltb y k
ltb_more y k other = elim (cases_lt y k) [
  | inl low ↦ lt-ltb y (k + 1) (omega arith) ∙ sym (lt-ltb y k low)
  | inr up ↦ (let apart : y ≢ k = other in le-ltb y (k + 1) (omega arith) ∙ sym (le-ltb y k up))
]

-- an entry that passes is put
pub row_put : (test : ℕ → ℕ → Bool) (a b : ℕ) (old mid new : Order) → test a b ≡ true → IsRowAdded test a b old mid
    → ((x y : ℕ) → is_before new x y ≡ (is_before mid x y || (eqb x a && eqb y b))) → IsRowAdded test a (b + 1) old new
row_put test a b old mid new passes so_far put x y = elim (cases_eq y b) [
  | inl here ↦
      put x y ∙ ap₂ (λ p q. p || (eqb x a && q)) (so_far x y) (eq-eqb y b here)
      ∙ ap (λ q. (is_before old x y || (eqb x a && (q && test a y))) || (eqb x a && true)) (le-ltb y b (omega arith))
      ∙ or_again (is_before old x y) (eqb x a)
      ∙ sym (ap₂ (λ p q. is_before old x y || (eqb x a && (p && q))) (lt-ltb y (b + 1) (omega arith)) (ap (test a) here ∙ passes))
  | inr other ↦
      put x y ∙ ap₂ (λ p q. p || (eqb x a && q)) (so_far x y) (ne_eqb y b other)
      ∙ or_nothing (is_before old x y || (eqb x a && (ltb y b && test a y))) (eqb x a)
      ∙ ap (λ q. is_before old x y || (eqb x a && (q && test a y))) (sym (ltb_more y b other))
]

-- an entry that fails is left out
pub row_skip : (test : ℕ → ℕ → Bool) (a b : ℕ) (old mid : Order) → test a b ≡ false → IsRowAdded test a b old mid → IsRowAdded test a (b + 1) old mid
row_skip test a b old mid fails so_far x y = so_far x y ∙ (elim (cases_eq y b) [
  | inl here ↦
      ap (λ q. is_before old x y || (eqb x a && (q && test a y))) (le-ltb y b (omega arith))
      ∙ sym (ap₂ (λ p q. is_before old x y || (eqb x a && (p && q))) (lt-ltb y (b + 1) (omega arith)) (ap (test a) here ∙ fails))
  | inr other ↦ ap (λ q. is_before old x y || (eqb x a && (q && test a y))) (sym (ltb_more y b other))
])

-- the first k rows are those of the test, and the others are empty
abbrev pub HasRows : (ℕ → ℕ → Bool) → ℕ → ℕ → Order → Type 0
HasRows test n k order = IsSquare n order × ((x y : ℕ) → is_before order x y ≡ (ltb x k && (ltb y n && test x y)))

-- what is asked together with what fails fails
and_nothing : (p q : Bool) → (p && (q && false)) ≡ false
and_nothing true true = refl
and_nothing true false = refl
and_nothing false q = refl

-- before the first row the table is empty
pub rows_start : (test : ℕ → ℕ → Bool) (n : ℕ) (order : Order) → order ≡ unordered n → HasRows test n 0 order
rows_start test n order is =
    subst (HasRows test n 0) (sym is) (
      table_square n (λ a b. false),
      λ x y. entry n (λ a b. false) x y ∙ and_nothing (ltb x n) (ltb y n) ∙ sym (ap (λ p. p && (ltb y n && test x y)) (le-ltb x 0 (omega arith))),
    )

-- where the first fails, either is the second
or_past : (p q : Bool) → p ≡ false → (p || q) ≡ q
or_past p q e = ap (λ p. p || q) e

-- one row more is filled
pub rows_more : (test : ℕ → ℕ → Bool) (n k : ℕ) (old new : Order) → HasRows test n k old → IsSquare n new → IsRowAdded test k n old new → HasRows test n (k + 1) new
rows_more test n k old new so_far square added = (
  square,
  λ x y. added x y ∙ ap (λ p. p || (eqb x k && (ltb y n && test k y))) (so_far.1 x y) ∙ (elim (cases_eq x k) [
    | inl here ↦
        ap₂ (λ p q. (p && (ltb y n && test x y)) || (q && (ltb y n && test k y))) (le-ltb x k (omega arith)) (eq-eqb x k here)
        ∙ ap (λ u. ltb y n && test u y) (sym here)
        ∙ sym (ap (λ p. p && (ltb y n && test x y)) (lt-ltb x (k + 1) (omega arith)))
    | inr other ↦
        ap (λ q. (ltb x k && (ltb y n && test x y)) || (q && (ltb y n && test k y))) (ne_eqb x k other)
        ∙ last_or (ltb x k && (ltb y n && test x y))
        ∙ ap (λ p. p && (ltb y n && test x y)) (sym (ltb_more x k other))
  ]),
)
  where
    last_or : (p : Bool) → (p || false) ≡ p
    last_or true = refl
    last_or false = refl

-- after the last row the table is that of the test
pub rows_end : (test : ℕ → ℕ → Bool) (n k : ℕ) (order : Order) → k ≡ n → HasRows test n k order → order ≡ table n test
rows_end test n k order all rows =
    same_order n order (table n test) rows.0 (table_square n test)
    (λ x y. rows.1 x y ∙ ap (λ m. ltb x m && (ltb y n && test x y)) all ∙ sym (entry n test x y))
