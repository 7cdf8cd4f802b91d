use Rattle.htn_calls.proofs.Words.{steps_in_front, live_steps_in_front, nothing_in_front}
use Rattle.htn_calls.proofs.Blocks.{series_join}
use Rattle.htn_calls.proofs.laws.series_steps.Goals as goal

pub returns : goal.returns
returns c = record { all_numbers = steps_in_front; live_numbers = live_steps_in_front; nothing = nothing_in_front; joined = series_join }
