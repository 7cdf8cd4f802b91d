-- What the answer of a search over a problem's word machine says of the problem.
use Rattle.std.specs.Prelude.{◌≡◌, ℕ, ◌↔◌, Some, None}
use Rattle.htn_model.specs.Problem.{Problem}
use Rattle.htn_model.specs.Tree.{Solution, IsSolution}
use Rattle.htn_model.specs.Code.{IsCode}
use Rattle.htn_model.specs.Answer.{IsAnswer, IsLeastWord}
use Rattle.htn_model.specs.Exhaustion.{IsMet, IsUnsolvable}
use Rattle.word_machine.specs.declared.found.Found.{Found}
use Rattle.word_machine.specs.declared.found.Found.TheVariants.{Word, None as NoWord, Unsolvable}

-- the least finishing word, whose solution is the answer; or no answer within the bound, which was met; or no solution
-- at all, and the bound was not met
abbrev pub IsAnswered : Problem → ℕ → Found → Type 0
IsAnswered problem bound (Word word) =
    IsLeastWord problem bound (Some word.items) × ((s : Solution) → IsSolution problem s → IsCode problem s word.items → IsAnswer problem bound (Some s))
IsAnswered problem bound NoWord = IsAnswer problem bound None × IsMet problem bound
IsAnswered problem bound Unsolvable = IsUnsolvable problem × (IsMet problem bound → ⊥)

-- none is found exactly where no solution is within the bound, which was met, and unsolvable exactly where there is no
-- solution and the bound was not met
pub record IsExact (problem : Problem) (bound : ℕ) (found : Found) : Type 0 where
  pub none : (found ≡ NoWord) ↔ (IsAnswer problem bound None × IsMet problem bound)
  pub unsolvable : (found ≡ Unsolvable) ↔ (IsUnsolvable problem × (IsMet problem bound → ⊥))
