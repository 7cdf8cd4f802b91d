use Rattle.std.proofs.Common.{◌≡◌, ◌++◌, ◌∷◌, [], length, take}
use Rattle.std.specs.List.{flat_map}
use Rattle.htn_ground.specs.Counted.{fitting}
use Rattle.htn_ground.specs.Search.{completions}
use Rattle.htn_ground.proofs.counts.count_run.Given as goal

abbrev pub invariant-loop-object : goal.invariant-loop-object
invariant-loop-object l =
    (l.values ≡ l.initial.values)
    × (l.count ≡ fitting (length (flat_map (λ object. completions l.domains l.relations (l.initial.values ++ object ∷ [])) (take l.object-index l.run))))
