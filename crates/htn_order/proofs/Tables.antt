-- The entries of a table, and tables with more entries.
use Rattle.std.proofs.Common.{◌≡◌, ℕ, ◌<◌, Bool, true, false, ◌&&◌, ◌||◌, ltb, inl, inr, length, refl, sym, ap, ap₂, ◌∙◌, arith}
use Rattle.std.proofs.lemmas.Bool.{cases_lt, cases_Bool, lt-ltb, le-ltb, and_parts, ltb-true}
use Rattle.htn_model.specs.Problem.{is_before}
use Rattle.htn_model.specs.Machine.{table}
use Rattle.htn_model.proofs.Splices.{table_within, table_past_left, table_past_right, table_square, same_order}

-- a table of n has n rows
pub table_size : (n : ℕ) (f : ℕ → ℕ → Bool) → length (table n f) ≡ n
table_size n f = (table_square n f).0

-- together with what fails, nothing holds
pub and_false : (p : Bool) → (p && false) ≡ false
and_false true = refl
and_false false = refl

-- an entry of a table is its test's, and past the end it is false
pub entry : (n : ℕ) (f : ℕ → ℕ → Bool) (x y : ℕ) → is_before (table n f) x y ≡ (ltb x n && (ltb y n && f x y))
entry n f x y = elim (cases_lt x n) [
  | inl low ↦ elim (cases_lt y n) [
    | inl under ↦ table_within n f x y low under ∙ sym (ap₂ (λ p q. p && (q && f x y)) (lt-ltb x n low) (lt-ltb y n under))
    | inr past ↦ table_past_right n f x y past ∙ sym (ap (λ q. ltb x n && (q && f x y)) (le-ltb y n past) ∙ and_false (ltb x n))
  ]
  | inr past ↦ table_past_left n f x y past ∙ sym (ap (λ p. p && (ltb y n && f x y)) (le-ltb x n past))
]

-- a table read at positions that it has
pub within : (n : ℕ) (f : ℕ → ℕ → Bool) (x y : ℕ) → is_before (table n f) x y ≡ true → (x < n) × (y < n) × (f x y ≡ true)
within n f x y h =
    let first = and_parts (ltb x n) (ltb y n && f x y) (sym (entry n f x y) ∙ h) in
    let second = and_parts (ltb y n) (f x y) first.1 in (ltb-true x n first.0, ltb-true y n second.0, second.1)

-- tests that agree below n make one table
pub same_tables : (n : ℕ) (f g : ℕ → ℕ → Bool) → ((x y : ℕ) → x < n → y < n → f x y ≡ g x y) → table n f ≡ table n g
same_tables n f g alike = same_order n (table n f) (table n g) (table_square n f) (table_square n g) (λ x y. elim (cases_lt x n) [
  | inl low ↦ elim (cases_lt y n) [
    | inl under ↦ table_within n f x y low under ∙ alike x y low under ∙ sym (table_within n g x y low under)
    | inr past ↦ table_past_right n f x y past ∙ sym (table_past_right n g x y past)
  ]
  | inr past ↦ table_past_left n f x y past ∙ sym (table_past_left n g x y past)
])

-- with what fails, either is the other
pub or_false : (p : Bool) → (p || false) ≡ p
or_false true = refl
or_false false = refl

-- an order that has what another has, and some more
pub more_entries : (n : ℕ) (f g more : ℕ → ℕ → Bool) → ((x y : ℕ) → x < n → y < n → g x y ≡ (f x y || more x y))
    → ((x y : ℕ) → more x y ≡ true → (x < n) × (y < n)) → (x y : ℕ) → is_before (table n g) x y ≡ (is_before (table n f) x y || more x y)
more_entries n f g more is bound x y = elim (cases_lt x n) [
  | inl low ↦ elim (cases_lt y n) [
    | inl under ↦ table_within n g x y low under ∙ is x y low under ∙ ap (λ p. p || more x y) (sym (table_within n f x y low under))
    | inr past ↦ outside (λ m. let b : y < n = (bound x y m).1 in omega arith) (table_past_right n g x y past) (table_past_right n f x y past)
  ]
  | inr past ↦ outside (λ m. let b : x < n = (bound x y m).0 in omega arith) (table_past_left n g x y past) (table_past_left n f x y past)
]
  where
    none : (more x y ≡ true → ⊥) → more x y ≡ false
    none no_more = elim (cases_Bool (more x y)) [ inl m ↦ absurd (no_more m) | inr m ↦ m ]

    outside : (more x y ≡ true → ⊥) → is_before (table n g) x y ≡ false → is_before (table n f) x y ≡ false
        → is_before (table n g) x y ≡ (is_before (table n f) x y || more x y)
    outside no_more first second = first ∙ sym (ap₂ (λ p q. p || q) second (none no_more))
