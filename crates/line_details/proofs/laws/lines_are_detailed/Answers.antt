use Rattle.line_details.proofs.Detailed.{lines_are_detailed}
use Rattle.line_details.proofs.laws.lines_are_detailed.Goals as goal

pub returns : goal.returns
returns c = record { detailed = lines_are_detailed }
