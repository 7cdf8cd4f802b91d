use Rattle.word_machine.specs.Level.{AreSuccessors}
use Rattle.word_machine.proofs.in_order.expand_in_order.Given as goal

-- the ranks so far were expanded
abbrev pub invariant-loop-rank : goal.invariant-loop-rank
invariant-loop-rank g l = AreSuccessors (g.W.Expand.has_successors l.work) l.first l.rank l.successors.items
