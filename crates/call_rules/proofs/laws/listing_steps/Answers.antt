use Rattle.call_rules.proofs.Listing.{listed_steps, listed_in_front, listed_in_series, listed_rules_lift, listed_tables_hold}
use Rattle.call_rules.proofs.laws.listing_steps.Goals as goal

pub returns : goal.returns
returns c = record {
  steps = listed_steps;
  in_front = listed_in_front;
  in_series = listed_in_series;
  lifted = listed_rules_lift;
  tables = listed_tables_hold;
}
