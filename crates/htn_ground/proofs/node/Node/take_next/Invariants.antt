use Rattle.std.proofs.Common.{◌≤◌}
use Rattle.htn_ground.specs.Trees.{size_of}
use Rattle.htn_ground.proofs.node.Node.take_next.Given as goal

abbrev pub invariant-loop-child : goal.invariant-loop-child
invariant-loop-child l = size_of l.here ≤ size_of l.fn.self

abbrev pub decreases-loop-child : goal.decreases-loop-child
decreases-loop-child l = size_of l.here
