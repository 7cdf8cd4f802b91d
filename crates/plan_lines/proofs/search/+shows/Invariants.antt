use Rattle.std.proofs.Common.{◌≡◌, ◌<◌, ◌∷◌, List, ℕ, Some, length, map, slice_get, true}
use Rattle.htn_model.specs.Instances.{ground_task, is_instance}
use Rattle.plan_lines.specs.Given.{Extends}
use Rattle.plan_lines.specs.Left.{Fill}
use Rattle.plan_lines.proofs.search.+shows.Given as goal

abbrev pub decreases-shows : goal.decreases-shows
decreases-shows l = length l.schemas.now

-- with none of the children that were tried has the first schema an instance
abbrev pub invariant-loop-number : goal.invariant-loop-number
invariant-loop-number l =
    (values : List ℕ) → Extends values l.given → is_instance l.task l.conditions values ≡ true → Fill l.children l.left.items (l.first.now ∷ map (λ s. s.now) l.rest) values
    → (j : ℕ) → j < l.number → slice_get l.children j ≡ Some (ground_task values l.first.now) → ⊥
