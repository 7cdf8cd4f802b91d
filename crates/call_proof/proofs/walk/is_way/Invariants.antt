use Rattle.std.proofs.Common.{drop}
use Rattle.call_table.specs.Lists.{list_at}
use Rattle.call_proof.specs.Ways.{IsBoundedWay}
use Rattle.call_proof.proofs.walk.is_way.Given as goal

abbrev pub invariant-loop-k : goal.invariant-loop-k
invariant-loop-k l =
    IsBoundedWay l.nodes.lists l.proposal.table l.proposal.values l.ends l.at.state (list_at l.nodes.lists l.at.number) (drop l.k l.ranks)
    → IsBoundedWay l.nodes.lists l.proposal.table l.proposal.values l.ends l.fn.from.state (list_at l.nodes.lists l.fn.from.number) l.ranks
