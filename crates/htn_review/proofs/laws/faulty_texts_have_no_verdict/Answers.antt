use Rattle.htn_review.proofs.OneVerdict.{faulty_have_no_verdict}
use Rattle.htn_review.proofs.laws.faulty_texts_have_no_verdict.Goals as goal

pub returns : goal.returns
returns c = record { none = faulty_have_no_verdict }
