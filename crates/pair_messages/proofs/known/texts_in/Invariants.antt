use Rattle.std.proofs.Common.{◌≡◌, take}
use Rattle.diagnostics.specs.Near.{names_of}
use Rattle.pair_messages.proofs.known.texts_in.Given as goal

abbrev pub invariant-loop-number : goal.invariant-loop-number
invariant-loop-number l = names_of l.found.items ≡ take l.number l.names
