-- Choices collected along numbers of which some pass a test.
use Rattle.std.proofs.Common.{◌≡◌, ℕ, ◌+◌, Bool, true, false, List, [], ◌∷◌, ◌++◌, map, All, sym, ap, ◌∙◌}
use Rattle.std.proofs.lemmas.List.{map-append}
use Rattle.std.proofs.lemmas.List.Elements.{All-push}
use Rattle.htn_model.specs.Choice.{passing}
use Rattle.htn_order.proofs.Free.{one_fails, one_passes}

module _ {X : Type 0} (P : X → Type 0) (number : X → ℕ) (test : ℕ → Bool) where
  -- these are right, and have the numbers below n that pass
  pub record AreCollected (n : ℕ) (xs : List X) : Type 0 where
    pub each : All P xs
    pub numbers : map number xs ≡ passing test n

  -- one more number that passes
  pub collect_more : (n : ℕ) (xs : List X) (x : X) → AreCollected n xs → P x → number x ≡ n → test n ≡ true → AreCollected (n + 1) (xs ++ x ∷ [])
  collect_more n xs x so_far right is passes = record {
    each = All-push P xs x so_far.each right;
    numbers = map-append number xs (x ∷ []) ∙ ap (λ (l : List ℕ). l ++ number x ∷ []) so_far.numbers ∙ ap (λ (k : ℕ). passing test n ++ k ∷ []) is ∙ sym (one_passes test n passes);
  }

  -- one more number that doesn't
  pub collect_none : (n : ℕ) (xs : List X) → AreCollected n xs → test n ≡ false → AreCollected (n + 1) xs
  collect_none n xs so_far fails = record { each = so_far.each; numbers = so_far.numbers ∙ sym (one_fails test n fails) }
