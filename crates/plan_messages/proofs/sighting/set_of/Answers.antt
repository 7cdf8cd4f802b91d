use Rattle.std.proofs.Common.{◌∙◌, ◌∷◌, ◌++◌, [], ap, get_or, nat_eq, sym, subst, false, ◌≡◌}
use Rattle.std.specs.List.{list_any}
use Rattle.std.specs.Prelude.{if◌then◌else◌}
use Rattle.std.proofs.lemmas.List.{take_more}
use Rattle.plan_messages.proofs.Seeing.{fresh}
use Rattle.plan_messages.proofs.sighting.set_of.Goals as goal

pub loop-id-preserved : goal.loop-id-preserved
loop-id-preserved c =
    let ids = c.args.ids.now in
    let i = c.loop-id.id-index in
    let x = get_or ids i 0 in
    let new : list_any (nat_eq x) c.loop-id.set.keys ≡ false = subst (λ ks. list_any (nat_eq x) ks ≡ false) (sym c.loop-id.invariant) (fresh ids i c.requires c.loop-id-test.true) in
    c.in_ok-insert.ensures.keys ∙ ap (λ b. if b then c.loop-id.set.keys else c.loop-id.set.keys ++ x ∷ []) new ∙ ap (λ ks. ks ++ x ∷ []) c.loop-id.invariant ∙ sym (take_more ids i 0 c.loop-id-test.true)
