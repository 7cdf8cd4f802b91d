use Rattle.htn_walk.proofs.Answers.{answered, exact}
use Rattle.htn_walk.proofs.answer.found_answers.Goals as goal

pub returns : goal.returns
returns c = record { answered = answered; exact = exact }
