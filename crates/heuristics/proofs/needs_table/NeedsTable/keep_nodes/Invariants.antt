use Rattle.std.proofs.Common.{◌≡◌, length}
use Rattle.state_table.specs.Table.{IsLater}
use Rattle.heuristics.specs.StoredNeeds.{AreNodes}
use Rattle.heuristics.proofs.needs_table.NeedsTable.keep_nodes.Given as goal

-- what is known of the nodes so far
abbrev pub invariant-loop-id : goal.invariant-loop-id
invariant-loop-id l = record {
  later : IsLater l.initial.atoms l.atoms;
  nodes : AreNodes l.prospects l.atoms l.networks l.self.nodes.items;
  rest : l.self ≡ record l.initial.self { nodes = l.self.nodes };
  count : length l.self.nodes.items ≡ l.id;
}
