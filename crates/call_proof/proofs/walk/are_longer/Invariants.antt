use Rattle.std.proofs.Common.{take}
use Rattle.call_proof.specs.Ways.{AreLonger}
use Rattle.call_proof.proofs.walk.are_longer.Given as goal

abbrev pub invariant-loop-rule : goal.invariant-loop-rule
invariant-loop-rule l = AreLonger l.nodes.lists l.proposal.table l.proposal.values (take l.rule-index l.rules) l.rest l.left
