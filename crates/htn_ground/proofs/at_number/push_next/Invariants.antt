use Rattle.std.proofs.Common.{◌≡◌, ◌++◌, ◌∷◌, [], length, take, ◌+◌}
use Rattle.std.specs.List.{flat_map}
use Rattle.htn_ground.specs.Search.{completions}
use Rattle.htn_ground.proofs.at_number.push_next.Given as goal

-- the completions by the objects so far come before the number
abbrev pub invariant-loop-object : goal.invariant-loop-object
invariant-loop-object l =
    (l.values ≡ l.initial.values)
    × (l.initial.number ≡ length (flat_map (λ object. completions l.domains l.relations (l.initial.values ++ object ∷ [])) (take l.object-index l.objects)) + l.number)
