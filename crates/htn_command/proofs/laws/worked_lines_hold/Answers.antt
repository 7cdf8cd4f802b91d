use Rattle.htn_command.proofs.Lines.{examples_hold}
use Rattle.htn_command.proofs.laws.worked_lines_hold.Goals as goal

pub returns : goal.returns
returns c = examples_hold
