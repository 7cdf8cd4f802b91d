use Rattle.std.specs.List.{All}
use Rattle.pair_messages.specs.Notes.{IsAsked}
use Rattle.pair_messages.specs.Orders.{AreNumbers}
use Rattle.pair_messages.proofs.asked.add_written.Given as goal

-- those so far
abbrev pub invariant-loop-ordering : goal.invariant-loop-ordering
invariant-loop-ordering l = AreNumbers l.network l.numbers → All (IsAsked l.network) l.initial.pairs.items → All (IsAsked l.network) l.pairs.items
