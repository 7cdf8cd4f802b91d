use Rattle.std.proofs.Common.{◌≡◌, ◌-◌, get_or, length, map}
use Rattle.plan_lines.specs.Allowed.{IsInstanceWith}
use Rattle.plan_lines.specs.Found.{AreAlike, AreFound, MayFit}
use Rattle.plan_lines.proofs.Gathering.{Tried}
use Rattle.plan_lines.proofs.completing.+push_completions.Given as goal

abbrev pub decreases-push_completions : goal.decreases-push_completions
decreases-push_completions l = length l.given.now - l.from

-- the instances with the objects so far are found
abbrev pub invariant-loop-object : goal.invariant-loop-object
invariant-loop-object l =
    AreFound (AreAlike l.search.shown.now) (IsInstanceWith l.search.task.now l.search.conditions.now l.given)
    (Tried (MayFit l.search.task.now l.search.conditions.now l.search.ever.now (map (λ a. a.now) l.search.atoms.now) l.given)
    (λ values j. get_or values l.from 0 ≡ get_or l.objects j 0) l.object-index) l.initial.found.items l.found.items
