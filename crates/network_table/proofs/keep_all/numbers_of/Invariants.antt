use Rattle.std.proofs.Common.{◌≡◌, take}
use Rattle.network_table.proofs.keep_all.numbers_of.Given as goal

abbrev pub invariant-loop-place : goal.invariant-loop-place
invariant-loop-place l = l.numbers.items ≡ take l.place-index l.places
