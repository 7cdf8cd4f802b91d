use Rattle.std.proofs.Common.{◌≡◌, ◌++◌, List, ℕ, length}
use Rattle.std.specs.Io.KnownBytes.{Appends}
use Rattle.plan_text.proofs.writer.put_all.Given as goal

-- some of the bytes were taken, and the rest is left
abbrev pub invariant-loop-rest : goal.invariant-loop-rest
invariant-loop-rest g l = (front : List ℕ) × (l.bytes ≡ front ++ l.rest) × Appends (g.O.Out.contents l.initial.out) (g.O.Out.contents l.out) front × (g.O.Out.has_failed l.out ≡ g.O.Out.has_failed l.initial.out)

abbrev pub decreases-loop-rest : goal.decreases-loop-rest
decreases-loop-rest g l = length l.rest
