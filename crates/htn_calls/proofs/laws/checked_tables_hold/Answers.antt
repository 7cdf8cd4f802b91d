use Rattle.htn_calls.proofs.Bounds.{checked_tables_hold, live_tables_hold}
use Rattle.htn_calls.proofs.laws.checked_tables_hold.Goals as goal

pub returns : goal.returns
returns c = record { all_numbers = checked_tables_hold; live_numbers = live_tables_hold }
