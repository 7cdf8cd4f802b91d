use Rattle.std.proofs.Common.{◌≡◌, length}
use Rattle.state_table.proofs.Words.{AreMixed}
use Rattle.state_table.proofs.bits.mixed.Given as goal

-- all words before one are mixed
abbrev pub invariant-loop-k : goal.invariant-loop-k
invariant-loop-k l = (l.k ≡ length l.mixed.items) × AreMixed l.mixed.items l.words l.mask l.part
