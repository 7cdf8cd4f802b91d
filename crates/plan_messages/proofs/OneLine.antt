-- Places on one line.
use Rattle.std.proofs.Common.{◌≡◌, ℕ, ◌+◌, ◌<◌, ◌≤◌, List, length, min, arith, inl, inr, subst, true}
use Rattle.std.specs.Prelude.{◌≢◌, slice_index}
use Rattle.htn_model.specs.PlanWord.{is_blank}
use Rattle.std.proofs.lemmas.Bool.{cases_lt}
use Rattle.plan_messages.specs.Spots.{IsOnLine}

-- a place is on its own line
pub on_start : (text : List ℕ) (from : ℕ) → IsOnLine text from (min from (length text))
on_start text from = record { order = omega arith; within = omega arith; one_line = λ k a b. absurd (omega arith) }

module _ (text : List ℕ) (from at : ℕ) (on : IsOnLine text from at) where
  one_line_on : slice_index text at ≢ 10 → (k : ℕ) → from ≤ k → k < at + 1 → slice_index text k ≢ 10
  one_line_on other k a b = elim (cases_lt k at) [
    | inl less ↦ on.one_line k a less
    | inr more ↦ (let e : at ≡ k = omega arith in subst (λ i. slice_index text i ≢ 10) e other)
  ]

  -- one byte more that is no line feed
  pub on_more : at < length text → slice_index text at ≢ 10 → IsOnLine text from (at + 1)
  on_more less other = record { order = omega (arith, on.order); within = omega arith; one_line = one_line_on other }

module _ (text : List ℕ) (a b c : ℕ) (p : IsOnLine text a b) (q : IsOnLine text b c) where
  through_one : (k : ℕ) → a ≤ k → k < c → slice_index text k ≢ 10
  through_one k m n = elim (cases_lt k b) [ inl less ↦ p.one_line k m less | inr more ↦ q.one_line k more n ]

  -- a place on the line of a place on a line
  pub on_through : IsOnLine text a c
  on_through = record { order = omega (arith, p.order, p.within, q.order); within = q.within; one_line = through_one }

-- a blank is no line feed
pub blank_other : (b : ℕ) → is_blank b ≡ true → b ≢ 10
blank_other b is e = let h : is_blank 10 ≡ true = subst (λ x. is_blank x ≡ true) e is in absurd (cc)
