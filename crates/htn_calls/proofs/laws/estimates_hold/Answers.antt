use Rattle.htn_calls.proofs.Bounds.{estimates_hold, live_estimates_hold}
use Rattle.htn_calls.proofs.laws.estimates_hold.Goals as goal

pub returns : goal.returns
returns c = record { all_numbers = estimates_hold; live_numbers = live_estimates_hold }
