use Rattle.htn_walk.proofs.Fewer.{answer_told}
use Rattle.htn_walk.proofs.answer.fewer_numbers_suffice.Goals as goal

pub returns : goal.returns
returns g c = λ m few initial_of number_of alive enough bound found tells answer is. answer_told m few initial_of number_of enough alive bound found tells answer is
