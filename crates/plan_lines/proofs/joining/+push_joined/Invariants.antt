use Rattle.std.proofs.Common.{◌≡◌, Some, length, map, slice_get}
use Rattle.htn_model.specs.Instances.{ground_atom}
use Rattle.plan_lines.specs.Allowed.{IsInstanceWith}
use Rattle.plan_lines.specs.Found.{AreAlike, AreFound, MayFit}
use Rattle.plan_lines.proofs.Gathering.{Tried}
use Rattle.plan_lines.proofs.joining.+push_joined.Given as goal

abbrev pub decreases-push_joined : goal.decreases-push_joined
decreases-push_joined l = length l.schemas.now

-- the instances with the atoms so far are found
abbrev pub invariant-loop-atom : goal.invariant-loop-atom
invariant-loop-atom l =
    AreFound (AreAlike l.search.shown.now) (IsInstanceWith l.search.task.now l.search.conditions.now l.given)
    (Tried (MayFit l.search.task.now l.search.conditions.now l.search.ever.now (map (λ a. a.now) l.search.atoms.now) l.given)
    (λ values j. slice_get (map (λ a. a.now) l.atoms) j ≡ Some (ground_atom values l.schema)) l.atom-index) l.initial.found.items l.found.items
