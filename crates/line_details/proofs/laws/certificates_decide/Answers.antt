use Rattle.line_details.proofs.Decided.{certificates_decide}
use Rattle.line_details.proofs.laws.certificates_decide.Goals as goal

pub returns : goal.returns
returns c = record { decide = certificates_decide }
