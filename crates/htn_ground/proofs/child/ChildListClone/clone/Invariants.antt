use Rattle.std.proofs.Common.{◌≡◌, take}
use Rattle.htn_ground.specs.Views.{children_of}
use Rattle.htn_ground.proofs.child.ChildListClone.clone.Given as goal

abbrev pub invariant-loop-child : goal.invariant-loop-child
invariant-loop-child l = l.children ≡ children_of (take l.child-index l.child-items)
