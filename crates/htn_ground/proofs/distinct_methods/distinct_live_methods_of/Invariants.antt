use Rattle.std.proofs.Common.{◌≡◌, take}
use Rattle.std.specs.List.{enumerate_from, filter, flat_map}
use Rattle.htn_model.specs.Instances.{instances_of_method}
use Rattle.htn_ground.specs.Distinct.{distinct, is_live}
use Rattle.htn_ground.proofs.distinct_methods.distinct_live_methods_of.Given as goal

-- the live instances of the methods so far
abbrev pub invariant-loop-place : goal.invariant-loop-place
invariant-loop-place l =
    l.found.keys ≡ distinct (filter (λ i. is_live l.task i.network) (flat_map (λ p. instances_of_method l.task l.goal p.0 p.1) (enumerate_from 0 (take l.place l.method-items))))
