use Rattle.std.proofs.Common.{◌≡◌, ◌++◌, ◌∷◌, [], length, map, take, ◌-◌, ◌+◌, ◌≤◌, ℕ}
use Rattle.std.specs.List.{flat_map}
use Rattle.htn_ground.specs.Counted.{fitted, fitting}
use Rattle.htn_ground.specs.Search.{completions}
use Rattle.htn_ground.specs.Search.{live_from}
use Rattle.htn_ground.proofs.search.+complete_live.Given as goal

abbrev pub decreases-complete_live : goal.decreases-complete_live
decreases-complete_live l = length l.domains.now - length l.values.now

abbrev pub decreases-loop-place : goal.decreases-loop-place
decreases-loop-place l = length l.objects - l.place

-- the values stand as they did, and the live completions by the objects so far are found and counted
abbrev pub invariant-loop-place : goal.invariant-loop-place
invariant-loop-place l =
    (l.place ≤ length l.objects)
    × (l.values ≡ l.initial.values)
    × ((first : ℕ) → l.initial.number ≡ fitting first
    → l.found.items ≡ l.initial.found.items ++ map fitted (live_from l.state l.literals first (flat_map (λ object. completions l.domains l.relations (l.initial.values ++ object ∷ [])) (take l.place l.objects))))
    × ((first : ℕ) → l.initial.number ≡ fitting first
    → l.number ≡ fitting (first + length (flat_map (λ object. completions l.domains l.relations (l.initial.values ++ object ∷ [])) (take l.place l.objects))))
