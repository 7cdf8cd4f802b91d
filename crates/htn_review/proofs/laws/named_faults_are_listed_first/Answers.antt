use Rattle.htn_review.proofs.ListedFirst.{named_is_listed_first}
use Rattle.htn_review.proofs.laws.named_faults_are_listed_first.Goals as goal

pub returns : goal.returns
returns c = record { first = named_is_listed_first }
