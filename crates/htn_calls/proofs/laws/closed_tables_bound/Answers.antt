use Rattle.htn_calls.specs.Cuts.{split}
use Rattle.htn_calls.proofs.Cuts.{cuts_split}
use Rattle.htn_calls.proofs.Rules.{all_closed_bound, live_closed_bound}
use Rattle.htn_calls.proofs.Numbered.{numbers_close}
use Rattle.htn_calls.proofs.Split.{all_step_bounds, live_step_bounds}
use Rattle.htn_calls.proofs.laws.closed_tables_bound.Goals as goal

pub returns : goal.returns
returns c = record {
  splits = cuts_split;
  numbers = numbers_close;
  all_estimates = all_step_bounds;
  live_estimates = live_step_bounds;
  all_numbers = λ problem. all_closed_bound problem split cuts_split;
  live_numbers = λ problem. live_closed_bound problem split cuts_split;
}
