use Rattle.htn_calls.proofs.Bounds.{all_measures, live_measures}
use Rattle.htn_calls.proofs.laws.measures_are_bounds.Goals as goal

pub returns : goal.returns
returns c = record { all_numbers = all_measures; live_numbers = live_measures }
