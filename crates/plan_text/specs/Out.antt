-- The bytes that an output took of those that were written to it.
use Rattle.std.specs.Prelude.{◌≡◌, ℕ, ◌≤◌, Bool, true, List, ◌++◌, length, take, Option, Result, MatchResult}
use Rattle.std.specs.Io.KnownBytes.{Keeps, Appends}

-- the bytes begin with those that were taken, as far as the taken ones are known
pub record TakesBeginning (old new : Option (List ℕ)) (bytes : List ℕ) : Type 0 where
  pub front : List ℕ
  pub back : List ℕ
  pub whole : bytes ≡ front ++ back
  pub taken : Appends old new front

-- At Ok the output took all bytes, and it has failed only if it had before. At an error it took a beginning of them,
-- and it has failed.
abbrev pub Writes : {T E : Type 0} → Option (List ℕ) → Option (List ℕ) → Bool → Bool → Result T E → List ℕ → Type 0
Writes old new had_failed has_failed result bytes =
    MatchResult result (λ _. Appends old new bytes × (has_failed ≡ had_failed)) (λ _. TakesBeginning old new bytes × (has_failed ≡ true))
