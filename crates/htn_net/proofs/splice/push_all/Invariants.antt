use Rattle.std.proofs.Common.{◌≡◌, ◌++◌, take}
use Rattle.htn_ground.specs.Views.{children_of}
use Rattle.htn_net.proofs.splice.push_all.Given as goal

abbrev pub invariant-loop-child : goal.invariant-loop-child
invariant-loop-child l = l.list ≡ l.initial.list ++ children_of (take l.child-index l.more)
