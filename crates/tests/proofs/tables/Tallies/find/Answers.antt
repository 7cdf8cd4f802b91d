use Rattle.std.proofs.Common.{rules, ◌≡◌, ℕ, zero, suc, ◌||◌, Bool, true, false, true≢false, List, [], ◌∷◌, Some, slice_get, get_or, refl, sym, ap, subst, ◌∙◌}
use Rattle.std.specs.Prelude.{Option, None, IfNone}
use Rattle.std.specs.List.{list_any}
use Rattle.std.proofs.lemmas.List.Quantifiers.{position-Some}
use Rattle.std.proofs.lemmas.Option.{none-some, same_Some, slice_get-get_or}
use Rattle.tests.specs.declared.tallies.Tally.{Tally}
use Rattle.tests.specs.Tallies.{nothing}
use Rattle.tests.proofs.tables.Tallies.find.Goals as goal

-- true beside anything
or_true : (b : Bool) → (b || true) ≡ true
or_true true = refl
or_true false = refl

-- what passes the test has no place where none passes
absent : (p : Tally → Bool) (ts : List Tally) (t : Tally) → list_any p ts ≡ false → p t ≡ true → (r : ℕ) → slice_get ts r ≡ Some t → ⊥
absent p ts t none passes r at = true≢false (sym (any ts r at) ∙ none)
  where
    any : (ts : List Tally) (r : ℕ) → slice_get ts r ≡ Some t → list_any p ts ≡ true
    any [] r at = absurd (none-some t at)
    any (x ∷ xs) zero at = ap (λ b. b || list_any p xs) (subst (λ y. p y ≡ true) (sym (same_Some x t at)) passes)
    any (x ∷ xs) (suc r) at = ap (λ b. p x || b) (any xs r at) ∙ or_true (p x)

-- what holds anyway holds at none
none_anyway : {P X : Type 0} (o : Option X) → P → IfNone o P
none_anyway None holds = holds
none_anyway (Some n) holds = tt

pub returns-in_err-number-clause-none : goal.returns-in_err-number-clause-none
returns-in_err-number-clause-none c =
    none_anyway c.from_residual.result (absent _ c.args.self.now.tallies.keys c.args.tally.now (sym c.in_err-number.ensures.found) (search rules))

pub returns-clause-some : goal.returns-clause-some
returns-clause-some c =
    let keys = c.args.self.now.tallies.keys in
    let found = position-Some _ keys c.in_ok-number.number nothing (sym c.in_ok-number.ensures.index) in
    let passes = found.1 in
    let same : get_or keys c.in_ok-number.number nothing ≡ c.args.tally.now = search rules in
    slice_get-get_or keys c.in_ok-number.number nothing found.0 ∙ ap Some same
