use Rattle.std.proofs.Common.{◌∙◌, ◌∷◌, [], subst, sym}
use Rattle.hddl_meaning.specs.Mentions.{IsIn}
use Rattle.hddl_meaning.proofs.Listed.{at_head, at_tail, in_flat_map}
use Rattle.pair_messages.proofs.orders.ordered_at.Goals as goal

pub returns-then-place : goal.returns-then-place
returns-then-place c =
    let o = c.in_ok-ordering.ordering.now in
    let all = c.args.network.now.orderings in (
      in_flat_map (λ o. o.before ∷ o.after ∷ []) o o.before all (subst (λ xs. IsIn o xs) c.as_slice.ensures c.in_ok-ordering.ensures) (at_head o.before (o.after ∷ [])),
      sym c.place.ensures ∙ c.if-place.true,
    )

pub returns-then-place-2 : goal.returns-then-place-2
returns-then-place-2 c =
    let o = c.in_ok-ordering.ordering.now in
    let all = c.args.network.now.orderings in (
      in_flat_map (λ o. o.before ∷ o.after ∷ []) o o.after all (subst (λ xs. IsIn o xs) c.as_slice.ensures c.in_ok-ordering.ensures) (at_tail o.before o.after (o.after ∷ []) (at_head o.after [])),
      sym c.place-2.ensures ∙ c.if-place-2.true,
    )
