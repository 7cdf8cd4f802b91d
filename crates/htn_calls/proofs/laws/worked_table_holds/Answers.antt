use Rattle.htn_calls.proofs.Worked.{endless_calls}
use Rattle.htn_calls.proofs.laws.worked_table_holds.Goals as goal

pub returns : goal.returns
returns c = record { endless = endless_calls }
