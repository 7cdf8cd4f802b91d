use Rattle.line_details.proofs.Accepted.{valid_files_have_details}
use Rattle.line_details.proofs.laws.valid_files_have_details.Goals as goal

pub returns : goal.returns
returns c = record { have = valid_files_have_details }
