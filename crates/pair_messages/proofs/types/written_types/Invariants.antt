use Rattle.diagnostics.specs.Near.{names_of}
use Rattle.pair_messages.specs.Offers.{AreWritten}
use Rattle.pair_messages.proofs.types.written_types.Given as goal

abbrev pub invariant-loop-text : goal.invariant-loop-text
invariant-loop-text l = AreWritten (names_of l.near) (names_of l.names.items)
