use Rattle.call_rules.proofs.Lone.{lone_are_nodes, rules_alone, rules_are_ranked, nodes_are_ordered}
use Rattle.call_rules.proofs.laws.lone_rules_hold.Goals as goal

pub returns : goal.returns
returns c = record {
  lone = lone_are_nodes;
  alone = rules_alone;
  ranked = rules_are_ranked;
  ordered = nodes_are_ordered;
}
