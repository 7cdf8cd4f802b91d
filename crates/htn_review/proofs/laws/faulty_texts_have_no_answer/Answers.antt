use Rattle.htn_review.proofs.OneAnswer.{faulty_have_no_answer}
use Rattle.htn_review.proofs.laws.faulty_texts_have_no_answer.Goals as goal

pub returns : goal.returns
returns c = record { none = faulty_have_no_answer }
