use Rattle.std.proofs.Common.{◌∙◌, ◌∷◌, ◌++◌, [], ap, subst, sym}
use Rattle.check_report.specs.ReachWarnings.{AreNoPlanWarnings}
use Rattle.check_report.proofs.reach_warnings.no_plan_warnings.Goals as goal

pub returns-in_ok-push-in-Some : goal.returns-in_ok-push-in-Some
returns-in_ok-push-in-Some c =
    let w = c.in_ok-warning-in-Some.ensures in
    subst (λ o. AreNoPlanWarnings c.args.texts.now o c.push.new.self.items) (sym c.in-Some.is)
    (w.0, c.in_ok-warning-in-Some.warning, c.in_ok-push-in-Some.ensures.items ∙ ap (λ xs. xs ++ c.in_ok-warning-in-Some.warning ∷ []) c.new-warnings.ensures.items, w.1)

pub returns-in-None : goal.returns-in-None
returns-in-None c = subst (λ o. AreNoPlanWarnings c.args.texts.now o c.new-warnings.result.items) (sym c.in-None.is) c.new-warnings.ensures.items
