-- Solutions and finishing words are one to one.
use Rattle.std.specs.Prelude.{◌≡◌, ℕ, suc, List, length, Option}
use Rattle.htn_model.specs.Problem.{Problem}
use Rattle.htn_model.specs.Tree.{Solution, IsSolution, total_size}
use Rattle.htn_model.specs.Code.{IsCode}
use Rattle.htn_model.specs.Machine.{Finishes}
use Rattle.htn_model.specs.Answer.{IsAnswer, IsLeastWord, AnswersBy}

-- each finishing word is the code of one solution, and each solution's code is one finishing word
pub record OneToOne (problem : Problem) : Type 0 where
  -- a solution of n nodes has a code, of n + 1 numbers, which finishes
  pub code : (s : Solution) → IsSolution problem s
      → (word : List ℕ) × IsCode problem s word × (length word ≡ suc (total_size s.trees)) × Finishes problem word
  -- a solution has one code at most
  pub one_code : (s : Solution) (v w : List ℕ) → IsSolution problem s → IsCode problem s v → IsCode problem s w → v ≡ w
  -- a word that finishes is the code of a solution
  pub solution : (word : List ℕ) → Finishes problem word → (s : Solution) × IsSolution problem s × IsCode problem s word
  -- a word is the code of one solution at most
  pub one_solution : (r s : Solution) (word : List ℕ) → IsSolution problem r → IsSolution problem s → IsCode problem r word → IsCode problem s word → r ≡ s

-- the solution of the least word is the answer, and there is one answer
pub record LeastWordAnswers (problem : Problem) : Type 0 where
  pub answer : (bound : ℕ) (word : Option (List ℕ)) (s : Option Solution) → IsLeastWord problem bound word → AnswersBy problem word s → IsAnswer problem bound s
  pub one_answer : (bound : ℕ) (r s : Option Solution) → IsAnswer problem bound r → IsAnswer problem bound s → r ≡ s
