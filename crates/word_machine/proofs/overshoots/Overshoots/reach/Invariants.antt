use Rattle.std.proofs.Common.{◌≡◌, ℕ, ◌*◌, ◌<◌, ◌≤◌, take}
use Rattle.std.specs.List.{sum}
use Rattle.word_machine.proofs.overshoots.Overshoots.reach.Given as goal

-- so many are not enough
abbrev pub invariant-loop-distance : goal.invariant-loop-distance
invariant-loop-distance l = record {
  total : l.total ≡ sum (take l.distance l.self.counts);
  small : l.total ≤ l.distance * 4294967295;
  fewer : (d : ℕ) → d < l.distance → sum (take d l.self.counts) < l.wanted;
}
