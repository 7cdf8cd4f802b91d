use Rattle.line_details.proofs.Worked.{files_have_details}
use Rattle.line_details.proofs.laws.worked_details_hold.Goals as goal

pub returns : goal.returns
returns c = record { hold = files_have_details }
