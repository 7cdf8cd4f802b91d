use Rattle.heuristics.proofs.ReachExamples.{blocked_nodes_stay, facts_are_apart, reached_are_apart}
use Rattle.heuristics.proofs.reach_laws.reach_examples_hold.Goals as goal

pub returns : goal.returns
returns c = record {
  facts = facts_are_apart;
  nodes = blocked_nodes_stay;
  reached = reached_are_apart;
}
