use Rattle.htn_review.proofs.OneVerdict.{verdicts_are_told, verdicts_are_unique}
use Rattle.htn_review.proofs.laws.verdicts_are_unique.Goals as goal

pub returns : goal.returns
returns c = record { verdict = verdicts_are_unique; told = verdicts_are_told }
