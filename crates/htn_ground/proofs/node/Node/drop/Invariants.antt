use Rattle.std.proofs.Common.{◌+◌, ◌*◌}
use Rattle.htn_ground.specs.Trees.{size_of, size_of_any}
use Rattle.htn_ground.proofs.node.Node.drop.Given as goal

-- fewer nodes are left, or as many and fewer below this one
abbrev pub decreases-loop-child : goal.decreases-loop-child
decreases-loop-child l = (size_of l.here + size_of_any l.above) * (size_of l.here + size_of_any l.above) + size_of l.here
