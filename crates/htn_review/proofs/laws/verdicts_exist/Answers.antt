use Rattle.htn_review.proofs.OneVerdict.{valid_is_solved, verdicts_exist}
use Rattle.htn_review.proofs.laws.verdicts_exist.Goals as goal

pub returns : goal.returns
returns c = record { verdict = verdicts_exist; valid = valid_is_solved }
