use Rattle.htn_calls.proofs.Bounds.{all_rules_lift, live_rules_lift}
use Rattle.htn_calls.proofs.Rules.{all_found, live_found}
use Rattle.htn_calls.proofs.Cuts.{cuts_split}
use Rattle.htn_calls.specs.Cuts.{split}
use Rattle.htn_calls.proofs.laws.rules_lift.Goals as goal

pub returns : goal.returns
returns c = record {
  all_numbers = all_rules_lift;
  live_numbers = live_rules_lift;
  all_found = λ problem. all_found problem split cuts_split;
  live_found = λ problem. live_found problem split cuts_split;
}
