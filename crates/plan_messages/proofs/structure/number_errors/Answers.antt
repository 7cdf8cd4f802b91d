use Rattle.std.proofs.Common.{◌∷◌, ◌++◌, [], get_or, None, subst, sym, take, take_all}
use Rattle.std.specs.List.{AllZip}
use Rattle.std.proofs.lemmas.List.{take_more}
use Rattle.indexmap.proofs.SetLemmas.{AllZip-push}
use Rattle.plan_messages.specs.Explanation.{IsNumberError}
use Rattle.plan_messages.specs.Numbers.{IsSightingOf}
use Rattle.plan_messages.proofs.About.{all_at}
use Rattle.plan_messages.proofs.structure.number_errors.Goals as goal

pub loop-number-preserved : goal.loop-number-preserved
loop-number-preserved c lines seen =
    let p = c.args.plan.now in
    let ids = c.args.ids.now in
    let i = c.loop-number.number in
    let one = IsNumberError p lines in
    let at = all_at (IsSightingOf p lines) ids c.args.seen.now i 0 None seen c.loop-number-test.true in
    subst (λ xs. AllZip one xs c.push.new.self.items) (sym (take_more ids i 0 c.loop-number-test.true))
    (subst (AllZip one (take i ids ++ get_or ids i 0 ∷ [])) (sym c.in_ok-push.ensures.items)
    (AllZip-push one (take i ids) c.loop-number.errors.items (get_or ids i 0) c.in_ok-number_error.field-0 (c.loop-number.invariant lines seen) (c.in_ok-number_error.ensures lines at)))

pub returns : goal.returns
returns c lines seen =
    let whole = take_all c.loop-number.number c.args.ids.now c.loop-number-test.false in
    subst (λ xs. AllZip (IsNumberError c.args.plan.now lines) xs c.loop-number.errors.items) whole (c.loop-number.invariant lines seen)
