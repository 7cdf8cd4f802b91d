use Rattle.htn_command.proofs.Unique.{requests_are_unique}
use Rattle.htn_command.proofs.laws.requests_are_unique.Goals as goal

pub returns : goal.returns
returns c = requests_are_unique
