use Rattle.std.proofs.Common.{◌≡◌, ◌+◌, length, take}
use Rattle.std.specs.List.{enumerate_from, flat_map}
use Rattle.htn_model.specs.Instances.{instances_of_method}
use Rattle.htn_ground.proofs.at_number.instance_at.Given as goal

-- the instances of the methods so far come before the number
abbrev pub invariant-loop-place : goal.invariant-loop-place
invariant-loop-place l = l.number ≡ length (flat_map (λ p. instances_of_method l.task l.goal p.0 p.1) (enumerate_from 0 (take l.place l.method-items))) + l.left
