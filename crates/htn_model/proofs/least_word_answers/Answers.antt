use Rattle.htn_model.proofs.Answers.{least_word_answers}
use Rattle.htn_model.proofs.least_word_answers.Goals as goal

pub returns : goal.returns
returns c = record { answers = least_word_answers }
