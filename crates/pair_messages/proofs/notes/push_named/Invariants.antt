use Rattle.std.proofs.Common.{◌≡◌, ◌++◌, take}
use Rattle.diagnostics.specs.Near.{names_of}
use Rattle.diagnostics.specs.Offers.{named}
use Rattle.pair_messages.proofs.notes.push_named.Given as goal

-- those so far
abbrev pub invariant-loop-part : goal.invariant-loop-part
invariant-loop-part l = names_of l.names.items ≡ names_of l.initial.names.items ++ named (take l.part-index l.parts)
