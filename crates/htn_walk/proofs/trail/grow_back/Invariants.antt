use Rattle.std.proofs.Common.{◌≡◌, [], length, reverse, vec_len}
use Rattle.htn_ground.specs.Trees.{Numbering, nodes_view}
use Rattle.htn_walk.specs.Trail.{AreWithin, before_moves}
use Rattle.htn_walk.proofs.trail.grow_back.Given as goal

abbrev pub invariant-loop-last : goal.invariant-loop-last
invariant-loop-last l = record {
  grown : (numbers : Numbering) → before_moves numbers l.trail.items (nodes_view numbers (reverse l.trees.items)) ≡ before_moves numbers l.fn.trail.items [];
  within : AreWithin l.trail.items (length l.trees.items);
}

abbrev pub decreases-loop-last : goal.decreases-loop-last
decreases-loop-last l = vec_len l.trail
