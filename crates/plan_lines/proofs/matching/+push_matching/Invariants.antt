use Rattle.std.proofs.Common.{◌≡◌, ◌∷◌, Some, length, map, slice_get}
use Rattle.htn_model.specs.Instances.{ground_task}
use Rattle.plan_lines.specs.Allowed.{IsInstanceWith}
use Rattle.plan_lines.specs.Found.{AreAlike, AreFound, MayFit}
use Rattle.plan_lines.specs.Left.{Fill}
use Rattle.plan_lines.proofs.Gathering.{Tried}
use Rattle.plan_lines.proofs.matching.+push_matching.Given as goal

abbrev pub decreases-push_matching : goal.decreases-push_matching
decreases-push_matching l = length l.schemas.now

-- the instances with the first schema at the children so far are found
abbrev pub invariant-loop-number : goal.invariant-loop-number
invariant-loop-number l =
    AreFound (AreAlike l.search.shown.now) (IsInstanceWith l.search.task.now l.search.conditions.now l.given)
    (Tried
    (λ values. MayFit l.search.task.now l.search.conditions.now l.search.ever.now (map (λ a. a.now) l.search.atoms.now) l.given values
    × Fill l.children l.left.items (l.first.now ∷ map (λ s. s.now) l.rest) values)
    (λ values j. slice_get l.children j ≡ Some (ground_task values l.first.now)) l.number) l.initial.found.items l.found.items
