use Rattle.htn_model.proofs.OneToOne.{one_to_one}
use Rattle.htn_model.proofs.codes_are_words.Goals as goal

pub returns : goal.returns
returns c = record { one_to_one = one_to_one }
