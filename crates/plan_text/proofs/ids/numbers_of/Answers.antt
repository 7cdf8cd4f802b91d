use Rattle.std.proofs.Common.{◌+◌, ◌++◌, ◌∷◌, [], get_or, take, sym, subst}
use Rattle.std.proofs.lemmas.List.{take_more}
use Rattle.plan_text.specs.Numbers.{AreNumbersOf}
use Rattle.plan_text.proofs.Adding.{get_in, not_found}
use Rattle.plan_text.proofs.Listed.{found_at, one_number_more}
use Rattle.plan_text.proofs.ids.numbers_of.Goals as goal

pub returns-in-None : goal.returns-in-None
returns-in-None c = (
  get_or c.args.listed.now c.loop-id.id-index 0,
  get_in c.args.listed.now c.loop-id.id-index 0 c.loop-id-test.true,
  not_found (get_or c.args.listed.now c.loop-id.id-index 0) c.args.ids.now.keys (sym c.in-None.ensures.found),
)

pub loop-id-preserved : goal.loop-id-preserved
loop-id-preserved c =
    let ids = c.args.ids.now.keys in
    let id = get_or c.args.listed.now c.loop-id.id-index 0 in
    let more = one_number_more ids c.loop-id.numbers.items (take c.loop-id.id-index c.args.listed.now) c.in-Some.number id c.loop-id.invariant
    (found_at id c.in-Some.number ids c.in-Some.ensures.index) in
    subst (λ xs. AreNumbersOf ids xs (take (c.loop-id.id-index + 1) c.args.listed.now)) (sym c.in_ok-push-in-Some.ensures.items)
    (subst (AreNumbersOf ids (c.loop-id.numbers.items ++ c.in-Some.number ∷ [])) (sym (take_more c.args.listed.now c.loop-id.id-index 0 c.loop-id-test.true)) more)
