use Rattle.std.proofs.Common.{◌≡◌, ◌++◌, ◌∷◌, [], length, take, ◌-◌}
use Rattle.std.specs.List.{flat_map}
use Rattle.htn_ground.specs.Counted.{fitting}
use Rattle.htn_ground.specs.Search.{completions}
use Rattle.htn_ground.proofs.counts.+count_completions.Given as goal

abbrev pub decreases-count_completions : goal.decreases-count_completions
decreases-count_completions l = length l.domains.now - length l.values.now

abbrev pub invariant-loop-object : goal.invariant-loop-object
invariant-loop-object l =
    (l.values ≡ l.initial.values)
    × (l.count ≡ fitting (length (flat_map (λ object. completions l.domains l.relations (l.initial.values ++ object ∷ [])) (take l.object-index l.objects))))
