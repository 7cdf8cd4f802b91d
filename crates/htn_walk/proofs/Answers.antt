-- What a search over a problem's machine answers, said of the problem.
use Rattle.std.proofs.Common.{◌≡◌, ℕ, suc, ◌<◌, List, [], ◌∷◌, length, refl, arith, Some, None}
use Rattle.htn_model.specs.Problem.{Problem, IsGrounded}
use Rattle.htn_model.specs.Answer.{IsLeastWord, IsAnswer as IsAnswerFor}
use Rattle.htn_model.specs.Exhaustion.{IsUnsolvable}
use Rattle.htn_model.specs.Machine.{Finishes as FinishesIn}
use Rattle.htn_model.proofs.OneToOne.{one_to_one}
use Rattle.htn_model.proofs.Answers.{least_word_answers}
use Rattle.word_machine.specs.declared.found.Found.{Found}
use Rattle.word_machine.specs.declared.found.Found.TheVariants.{Word, None as NoWord, Unsolvable}
use Rattle.word_machine.specs.Words.{step_count}
use Rattle.word_machine.specs.Answer.{IsLeastFinishing, NoneFinishes, NeverFinishes, IsAnswer}
use Rattle.htn_walk.specs.Machine.{machine_of}
use Rattle.htn_walk.specs.Answered.{IsAnswered, IsExact}
use Rattle.htn_walk.proofs.Words.{no_later, finishes_from, finishes_back, met_from, met_back}

module _ (problem : Problem) (bound : ℕ) where
  -- a finishing word has a number more than it has steps
  counted : (w : List ℕ) → FinishesIn problem w → length w ≡ suc (step_count w)
  counted [] finish = absurd finish
  counted (i ∷ ns) finish = refl

  -- the machine's least finishing word is the problem's least word
  pub least_word : (w : List ℕ) → IsLeastFinishing (machine_of problem) bound w → IsLeastWord problem bound (Some w)
  least_word w least =
      let finish = finishes_from problem w least.finishes in
      let long = counted w finish in
      let within = least.within in
      (finish, omega arith, λ other finishes. no_later w other (λ before. least.least other (finishes_back problem other finishes) before))

  -- where no word of the machine finishes, the problem has no least word
  no_word : NoneFinishes (machine_of problem) bound → IsLeastWord problem bound None
  no_word none word finish =
      let long = counted word finish in
      let over : bound < step_count word = none word (finishes_back problem word finish) in
      omega arith

  module _ (grounded : IsGrounded problem) where
    -- where no word of any length finishes, the problem is unsolvable
    never : NeverFinishes (machine_of problem) → IsUnsolvable problem
    never none s solves = let code = (one_to_one problem grounded).code s solves in none code.0 (finishes_back problem code.0 code.3)

    -- where no word within the bound finishes, no solution is within it
    pub none_answered : NoneFinishes (machine_of problem) bound → IsAnswerFor problem bound None
    none_answered none = (least_word_answers problem grounded).answer bound None None (no_word none) tt

    -- what answers for the machine answers for the problem
    answered_by : (found : Found) → IsAnswer (machine_of problem) bound found → IsAnswered problem bound found
    answered_by (Word word) least =
        let own = least_word word.items least in
        (own, λ s solves code. (least_word_answers problem grounded).answer bound (Some word.items) (Some s) own (solves, code))
    answered_by NoWord none = (none_answered none.0, met_from problem bound none.1)
    answered_by Unsolvable none = (never none.0, λ met. none.1 (met_back problem bound met))

    -- what is answered for the problem is exact: a plan, none, or unsolvable
    exact_by : (found : Found) → IsAnswered problem bound found → IsExact problem bound found
    exact_by (Word word) own =
        let s = (one_to_one problem grounded).solution word.items own.0.0 in
        let answer = own.1 s.0 s.1 s.2 in
        record {
          none = (λ e. absurd cc, λ other. absurd (let over = other.0 s.0 s.1 in let within = answer.1 in omega arith));
          unsolvable = (λ e. absurd cc, λ other. absurd (other.0 s.0 s.1));
        }
    exact_by NoWord own = record {
      none = (λ e. own, λ other. refl);
      unsolvable = (λ e. absurd cc, λ other. absurd (other.1 own.1));
    }
    exact_by Unsolvable own = record {
      none = (λ e. absurd cc, λ other. absurd (own.1 other.1));
      unsolvable = (λ e. own, λ other. refl);
    }

-- what answers for the machine of a grounded problem answers for the problem
pub answered : (problem : Problem) (bound : ℕ) (found : Found) → IsGrounded problem → IsAnswer (machine_of problem) bound found → IsAnswered problem bound found
answered problem bound found grounded answer = answered_by problem bound grounded found answer

-- what answers for the machine of a grounded problem is exact
pub exact : (problem : Problem) (bound : ℕ) (found : Found) → IsGrounded problem → IsAnswer (machine_of problem) bound found → IsExact problem bound found
exact problem bound found grounded answer = exact_by problem bound grounded found (answered_by problem bound grounded found answer)
