use Rattle.std.proofs.Common.{◌≡◌, map, take}
use Rattle.htn_ground.specs.Views.{child_view}
use Rattle.htn_ground.specs.declared.child.Child.{Child}
use Rattle.heuristics.specs.Sizes.{size_of}
use Rattle.task_machine.proofs.instances.bounds_of.Given as goal

-- the sizes of the nodes so far
abbrev pub invariant-loop-node : goal.invariant-loop-node
invariant-loop-node l = l.bounds.items ≡ map (λ (n : Child). size_of l.sizes (child_view n)) (take l.node-index l.nodes)
