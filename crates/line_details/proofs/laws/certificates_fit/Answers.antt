use Rattle.line_details.proofs.Solved.{certificates_fit}
use Rattle.line_details.proofs.laws.certificates_fit.Goals as goal

pub returns : goal.returns
returns c = record { fit = certificates_fit }
