use Rattle.std.proofs.Common.{◌∷◌, ◌++◌, [], subst, sym, take}
use Rattle.std.specs.List.{AllZip}
use Rattle.std.proofs.Common.{◌∙◌, ap}
use Rattle.std.proofs.lemmas.List.{take_more}
use Rattle.indexmap.proofs.SetLemmas.{AllZip-push}
use Rattle.plan_messages.specs.Explanation.{IsGoalError}
use Rattle.plan_messages.proofs.run_errors.goal_errors.Goals as goal

pub loop-literal-preserved : goal.loop-literal-preserved
loop-literal-preserved c =
    let ls = c.args.literals.now in
    let i = c.loop-literal.literal-index in
    let x = c.literal-item.result in
    let one = IsGoalError c.args.texts.now in
    let front = take_more ls i x c.loop-literal-test.true ∙ ap (λ y. take i ls ++ y ∷ []) (sym c.literal-item.is) in
    subst (λ xs. AllZip one xs c.push.new.self.items) (sym front)
    (subst (AllZip one (take i ls ++ x ∷ [])) (sym c.in_ok-push.ensures.items)
    (AllZip-push one (take i ls) c.loop-literal.errors.items x _ c.loop-literal.invariant c.in_ok-goal_error.ensures))
