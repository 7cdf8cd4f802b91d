use Rattle.std.proofs.Common.{take}
use Rattle.call_proof.specs.Ways.{AreListsLeft}
use Rattle.call_proof.proofs.walk.are_left.Given as goal

abbrev pub invariant-loop-list : goal.invariant-loop-list
invariant-loop-list l = AreListsLeft l.nodes.lists l.proposal.table l.proposal.values l.steps (take l.list-index l.lists)
