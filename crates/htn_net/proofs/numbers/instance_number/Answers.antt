use Rattle.std.proofs.Common.{◌≡◌, ℕ, false, All, Option, Some, slice_get, sym, ap, ◌∙◌, subst}
use Rattle.std.proofs.lemmas.Option.{get_or_from_slice_get}
use Rattle.htn_model.specs.Instance.{Instance, instance_eq}
use Rattle.htn_net.proofs.Numbered.{live_met, live_number}
use Rattle.htn_net.proofs.numbers.instance_number.Goals as goal

pub unreachable-requires : goal.unreachable-requires
unreachable-requires c =
    let i = c.args.instance.now in
    live_met c.args.task.now c.args.goal.now c.in_ok-live.live.items c.in_ok-live.ensures i c.requires.stands.0 c.requires.stands.1 c.requires.alive
    (subst (All (λ (p : Option ℕ × Instance). instance_eq p.1 i ≡ false)) c.deref.ensures.value c.in_default.ensures.none)

pub returns : goal.returns
returns c =
    let live = c.in_ok-live.live.items in
    let place = c.in-Some.place in
    let p : Option ℕ × Instance = (c.in-Some.ensures.some.0, c.args.instance.now) in
    let at : slice_get live place ≡ Some p = ap (λ l. slice_get l place) (sym c.deref.ensures.value) ∙ c.in-Some.ensures.some.1 in
    let is : c.index.result.now ≡ p = c.index.ensures ∙ get_or_from_slice_get live place p c.index.result.now at in
    live_number c.args.task.now c.args.goal.now live c.in_ok-live.ensures place p at c.in-Some-0₀.number (ap (λ (q : Option ℕ × Instance). q.0) (sym is) ∙ c.in-Some-0₀.is)
