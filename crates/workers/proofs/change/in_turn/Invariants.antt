-- What stands before a place is changed, and the rest is as it was.
use Prim.Native.Nat.{ℕ, ◌+◌, ◌<◌, ◌≤◌}
use mathlib.Core.Path.{◌≡◌}
use lib.ListN.{get_or, length}
use Rattle.std.specs.Fork.{ChangesAt}
use Rattle.workers.proofs.change.in_turn.Given as goal

abbrev pub invariant-loop-k : goal.invariant-loop-k
invariant-loop-k g l =
    (length l.s ≡ length l.initial.s)
    × ((j : ℕ) (d : g.row.T.Denot) → l.k ≤ j → get_or l.s j d ≡ get_or l.initial.s j d)
    × ((j : ℕ) (d : g.row.T.Denot) → j < l.k → ChangesAt g.F.Fn l.f (l.first + j) (get_or l.initial.s j d) (get_or l.s j d))
