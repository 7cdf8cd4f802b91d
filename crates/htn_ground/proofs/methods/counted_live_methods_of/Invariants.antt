use Rattle.std.proofs.Common.{◌≡◌, length, map, take}
use Rattle.std.specs.List.{enumerate_from, flat_map}
use Rattle.htn_model.specs.Instances.{instances_of_method}
use Rattle.htn_ground.specs.Counted.{counted, fitting}
use Rattle.htn_ground.specs.Methods.{live_instances}
use Rattle.htn_ground.proofs.methods.counted_live_methods_of.Given as goal

-- the live instances of the methods so far, and how many instances these have
abbrev pub invariant-loop-place : goal.invariant-loop-place
invariant-loop-place l =
    (l.found.items ≡ map counted (live_instances l.task (enumerate_from 0 (flat_map (λ p. instances_of_method l.task l.goal p.0 p.1) (enumerate_from 0 (take l.place l.method-items))))))
    × (l.first ≡ fitting (length (flat_map (λ p. instances_of_method l.task l.goal p.0 p.1) (enumerate_from 0 (take l.place l.method-items)))))
