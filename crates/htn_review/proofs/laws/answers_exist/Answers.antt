use Rattle.htn_review.proofs.Exists.{answers_exist, texts_have_a_task}
use Rattle.htn_review.proofs.laws.answers_exist.Goals as goal

pub returns : goal.returns
returns c = record { task = texts_have_a_task; answer = answers_exist }
