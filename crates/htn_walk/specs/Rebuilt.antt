-- The solution of a word.
use Rattle.std.specs.Prelude.{◌≡◌, ℕ, List}
use Rattle.htn_model.specs.Problem.{Problem}
use Rattle.htn_model.specs.Tree.{Solution, IsSolution}
use Rattle.htn_model.specs.Code.{IsCode}

-- a solution whose code is the word, and there is no other
pub record IsSolutionOf (problem : Problem) (word : List ℕ) (s : Solution) : Type 0 where
  pub solves : IsSolution problem s
  pub code : IsCode problem s word
  pub only : (other : Solution) → IsSolution problem other → IsCode problem other word → other ≡ s
