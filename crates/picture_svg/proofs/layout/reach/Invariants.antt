use Rattle.std.proofs.Common.{◌≡◌, ◌≤◌, length, drop}
use Rattle.picture_svg.specs.Layout as spec
use Rattle.picture_svg.proofs.layout.reach.Given as goal

-- how far those reach from some place on
abbrev pub invariant-loop-left : goal.invariant-loop-left
invariant-loop-left l = record {
  within : l.left ≤ length l.areas;
  so_far : l.most ≡ spec.reach (drop l.left l.areas);
}

abbrev pub decreases-loop-left : goal.decreases-loop-left
decreases-loop-left l = l.left
