use Rattle.std.proofs.Common.{◌≡◌, ◌∙◌, All, ap, false, refl, subst, sym}
use Rattle.std.specs.List.{list_all}
use Rattle.heuristics.specs.Facts.{are_possible}
use Rattle.never_applied.specs.Fine.{facts_of, is_fine}
use Rattle.never_applied.proofs.Sound.{goal_lost, starts_lost}
use Rattle.never_applied.proofs.no_plan.no_plan.Goals as goal

pub returns-in-Some : goal.returns-in-Some
returns-in-Some c = λ _ fine.
    goal_lost c.args.task.now c.args.fine.now fine
    (ap (are_possible (facts_of c.args.fine.now.facts)) (sym (c.as_slice.ensures ∙ c.in_ok-goal.ensures)) ∙ c.in_ok-lost.ensures (rw c.in-Some.is refl))

pub returns : goal.returns
returns c = λ _ fine.
    starts_lost c.args.task.now c.args.fine.now fine.nodes
    (subst (All (λ i. list_all (is_fine c.args.fine.now) i.network.children ≡ false)) (c.deref.ensures.value ∙ c.in_ok-initials.ensures) (c.are_all_lost-is_lost.ensures c.if-not-is_lost.false))
