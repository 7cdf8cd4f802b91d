use Rattle.call_rules.proofs.Sizes.{nodes_are_sizes}
use Rattle.call_rules.proofs.Within.{sizes_are_bounds, closed_are_checked, tables_claim, bounds_are_below, bounds_of_ordered}
use Rattle.call_rules.proofs.laws.tables_bound.Goals as goal

pub returns : goal.returns
returns c = record {
  nodes = nodes_are_sizes;
  sizes = sizes_are_bounds;
  closed = closed_are_checked;
  claims = tables_claim;
  below = bounds_are_below;
  ordered = bounds_of_ordered;
}
