use Rattle.htn_calls.proofs.Words.{words_split, finishes_closed}
use Rattle.htn_calls.proofs.Bounds.{all_in_series, live_in_series}
use Rattle.htn_calls.proofs.laws.series_words.Goals as goal

pub returns : goal.returns
returns c = record { finishing = words_split; closed = finishes_closed; all_numbers = all_in_series; live_numbers = live_in_series }
