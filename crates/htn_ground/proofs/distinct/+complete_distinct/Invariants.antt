use Rattle.std.proofs.Common.{◌≡◌, ◌++◌, ◌∷◌, ◌-◌, ◌<◌, ◌≤◌, [], Bool, List, length, take, ℕ}
use Rattle.std.specs.List.{flat_map}
use Rattle.htn_model.specs.Instance.{Instance}
use Rattle.htn_model.specs.Problem.{Network}
use Rattle.htn_ground.specs.Distinct.{gathered}
use Rattle.htn_ground.specs.Search.{completions}
use Rattle.htn_ground.specs.Shown.{Ignores}
use Rattle.htn_ground.proofs.distinct.+complete_distinct.Given as goal

abbrev pub decreases-complete_distinct : goal.decreases-complete_distinct
decreases-complete_distinct l = length l.domains.now - length l.values.now

abbrev pub decreases-loop-place : goal.decreases-loop-place
decreases-loop-place l = length l.objects - l.place

-- the values stand as they did, and what is found serves for the completions by the objects so far
abbrev pub invariant-loop-place : goal.invariant-loop-place
invariant-loop-place l =
    (l.place ≤ length l.objects)
    × (l.values ≡ l.initial.values)
    × ((passes : Network → Bool) (make : List ℕ → Instance) → Ignores l.state l.literals l.shown passes make → (kept : List Instance)
    → gathered passes make kept l.found.items
    ≡ gathered passes make kept (l.initial.found.items ++ flat_map (λ object. completions l.domains l.relations (l.initial.values ++ object ∷ [])) (take l.place l.objects)))
    × (length l.initial.found.items ≤ length l.found.items)
    × (length l.initial.found.items < length l.found.items → 0 < length (flat_map (λ object. completions l.domains l.relations (l.initial.values ++ object ∷ [])) (take l.place l.objects)))
