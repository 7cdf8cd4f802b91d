use Rattle.htn_review.proofs.OneAnswer.{answers_are_unique, texts_have_one_task}
use Rattle.htn_review.proofs.laws.answers_are_unique.Goals as goal

pub returns : goal.returns
returns c = record { task = texts_have_one_task; answer = answers_are_unique }
