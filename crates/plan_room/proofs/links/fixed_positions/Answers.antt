use Rattle.std.proofs.Common.{◌≡◌, ◌∙◌, suc, ◌-◌, ◌⊎◌, true, false, length, get_or, sym, subst, arith}
use Rattle.std.proofs.lemmas.List.{get_or_default, length-set}
use Rattle.htn_model.specs.Problem.{is_before}
use Rattle.plan_room.specs.Matching.{AreTwins}
use Rattle.plan_room.proofs.Linked.{flagged_on, seen_on}
use Rattle.plan_room.proofs.links.fixed_positions.Goals as goal

pub loop-place-preserved : goal.loop-place-preserved
loop-place-preserved c =
    let order = c.args.order.now in
    let sequence = c.args.sequence.now in
    let first = c.args.first.now in
    let inv = c.loop-place.invariant in
    let p = c.loop-place.place - 1 in
    let here = get_or sequence p 0 in
    let fixed = c.loop-place.fixed.items in
    let seen = c.loop-place.seen.items in
    let after : c.loop-place.place ≡ suc p = omega arith in
    let low = inv.low in
    let later_is : get_or seen (get_or first here 0) 0 ≡ c.index-later.result.now =
    (let link = get_or_default seen (get_or first here 0) c.index-later.result.now 0 (let w = inv.wide in let l = c.requires.within here in omega arith) in let e = c.index-later.ensures in omega arith) in
    record {
      low = omega arith;
      sizes = length-set fixed here c.is_settled.result ∙ inv.sizes;
      wide = length-set seen (get_or first here 0) here ∙ inv.wide;
      flagged = flagged_on order sequence (λ a. get_or first a 0) c.args.rising.now c.requires.sequence p c.loop-place.place after (omega arith) c.size-size.ensures.closed fixed inv.flagged
          (get_or seen (get_or first here 0) 0) (inv.seen (get_or first here 0) (c.requires.within here)) c.is_settled.result
          (λ is. subst (λ v. (v ≡ length order) ⊎ ((get_or fixed v false ≡ true) × (AreTwins order here v ⊎ ((is_before order here v ≡ true) × (get_or c.args.rising.now (get_or first here 0) false ≡ true))))) (sym later_is)
          (subst (λ xs. (c.index-later.result.now ≡ length order) ⊎ ((get_or xs c.index-later.result.now false ≡ true)
          × (AreTwins order here c.index-later.result.now ⊎ ((is_before order here c.index-later.result.now ≡ true) × (get_or c.args.rising.now (get_or first here 0) false ≡ true))))) c.deref.ensures.value
          (subst (λ b. (c.index-later.result.now ≡ length order) ⊎ ((get_or c.deref.result.now c.index-later.result.now false ≡ true)
          × (AreTwins order here c.index-later.result.now ⊎ ((is_before order here c.index-later.result.now ≡ true) × (b ≡ true))))) c.flag_at-is_rising.ensures (c.is_settled.ensures is))))
          inv.sizes;
      seen = seen_on order sequence (λ a. get_or first a 0) c.args.rising.now c.requires.sequence p c.loop-place.place after (omega arith) seen c.args.count (let w = inv.wide in omega arith) (c.requires.within here) inv.seen;
    }
