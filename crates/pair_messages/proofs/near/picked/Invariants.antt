use Rattle.std.proofs.Common.{◌≡◌, filter_map, slice_get, take}
use Rattle.diagnostics.specs.Near.{names_of}
use Rattle.pair_messages.proofs.near.picked.Given as goal

-- those so far
abbrev pub invariant-loop-number : goal.invariant-loop-number
invariant-loop-number l = names_of l.found.items ≡ filter_map (slice_get (names_of l.names)) (take l.number-index l.numbers)
