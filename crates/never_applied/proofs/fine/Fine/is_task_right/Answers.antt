use Rattle.std.proofs.Common.{◌≡◌, ◌∙◌, All, false, subst, sym}
use Rattle.std.specs.List.{list_all}
use Rattle.never_applied.specs.Fine.{is_fine}
use Rattle.never_applied.proofs.Sound.{known_right, lost_right}
use Rattle.never_applied.proofs.fine.Fine.is_task_right.Goals as goal

pub returns-then-is_known : goal.returns-then-is_known
returns-then-is_known c = λ _. known_right c.args.task.now c.args.self.now c.args.goal.now (sym c.contains-is_known.ensures ∙ c.if-is_known.true)

pub returns : goal.returns
returns c = λ passes.
    lost_right c.args.task.now c.args.self.now c.args.goal.now
    (subst (All (λ p. list_all (is_fine c.args.self.now) p.1.network.children ≡ false)) (c.deref.ensures.value ∙ c.in_ok-instances.ensures) (c.are_lost.ensures passes))
