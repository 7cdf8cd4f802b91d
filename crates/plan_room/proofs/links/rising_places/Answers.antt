use Rattle.std.proofs.Common.{◌≡◌, ◌≤◌, ◌<◌, ◌-◌, ◌⊎◌, suc, true, false, length, get_or, ◌∙◌, subst, arith}
use Rattle.std.proofs.lemmas.List.{length-set}
use Rattle.plan_room.specs.Links.{task_at}
use Rattle.plan_room.proofs.Linked.{rising_on}
use Rattle.plan_room.proofs.links.rising_places.Goals as goal

pub loop-place-preserved : goal.loop-place-preserved
loop-place-preserved g c =
    let l = g.L.PlanLines.lines c.args.lines.now in
    let children = c.args.children.now in
    let inv = c.loop-place.invariant in
    let p = c.loop-place.place - 1 in
    let rising = c.loop-place.rising.items in
    let next = get_or c.args.after.now p 0 in
    let low = inv.low in
    let from : c.loop-place.place ≡ suc p = omega arith in
    record {
      low = omega arith;
      size = length-set rising p c.rises-is_rising.result ∙ inv.size;
      rise = rising_on (task_at l children) children l.actions c.args.after.now c.requires p c.loop-place.place from (omega arith) rising inv.size inv.rise c.rises-is_rising.result
          (λ is. subst (λ xs. (get_or children p 0 < l.actions) × ((length children ≤ next) ⊎ ((get_or children p 0 < get_or children next 0) × (get_or xs next false ≡ true)))) c.deref.ensures.value
          (subst (λ a. (get_or children p 0 < a) × ((length children ≤ next) ⊎ ((get_or children p 0 < get_or children next 0) × (get_or c.deref.result.now next false ≡ true)))) c.actions-actions.ensures
          (c.rises-is_rising.ensures is)));
    }
