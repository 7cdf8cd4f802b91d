use Rattle.std.proofs.Common.{◌≡◌, true, false, get_or, length, ◌≤◌, sym, ◌∙◌, subst}
use Rattle.plan_room.specs.Links.{AreFlagged, place_of}
use Rattle.plan_room.proofs.Linked.{first_low, linked}
use Rattle.plan_room.proofs.links.links_of.Goals as goal

pub fixed_positions-requires-clause-within : goal.fixed_positions-requires-clause-within
fixed_positions-requires-clause-within g c a =
    subst (λ xs. get_or xs a 0 ≤ length c.args.children.now) (sym (c.deref-2.ensures.value ∙ c.in_ok-first.ensures))
    (first_low (g.L.PlanLines.lines c.args.lines.now) c.args.children.now c.args.instance.now.network c.args.sequence.now 0 (place_of c.next_places.new.places) c.as_slice.result.now
    (c.as_slice.ensures ∙ c.children.ensures) c.requires.square c.requires.sequence c.in_ok-after.ensures.first a)

pub returns : goal.returns
returns g c gap =
    let sequence = c.args.sequence.now in
    let rising = c.in_ok-rising.rising.items in
    linked (g.L.PlanLines.lines c.args.lines.now) c.args.children.now c.args.instance.now.network sequence gap (place_of c.next_places.new.places) c.as_slice.result.now
    (c.as_slice.ensures ∙ c.children.ensures) c.requires.square c.requires.sequence c.in_ok-after.ensures.first c.requires.lines
    (record { first = c.in_ok-first.first; after = c.in_ok-after.after; fixed = c.in_ok-fixed.fixed; ahead = c.args.ahead }) rising c.in_ok-first.ensures c.in_ok-after.ensures.next c.in_ok-rising.ensures
    (subst (λ o. AreFlagged o sequence (λ a. get_or c.in_ok-first.first.items a 0) rising 0 (λ a. get_or c.in_ok-fixed.fixed.items a false ≡ true)) c.order-order.ensures
    (subst (λ xs. AreFlagged c.order-order.result.now sequence (λ a. get_or xs a 0) rising 0 (λ a. get_or c.in_ok-fixed.fixed.items a false ≡ true)) c.deref-2.ensures.value
    (subst (λ fs. AreFlagged c.order-order.result.now sequence (λ a. get_or c.deref-2.result.now a 0) fs 0 (λ a. get_or c.in_ok-fixed.fixed.items a false ≡ true)) c.deref-3.ensures.value c.in_ok-fixed.ensures)))
    c.requires.ahead
