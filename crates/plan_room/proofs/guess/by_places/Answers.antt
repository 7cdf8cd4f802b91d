use Rattle.std.proofs.Common.{◌≡◌, map, take, subst, arith}
use Rattle.plan_room.proofs.Listed.{second_reordered}
use Rattle.plan_room.proofs.guess.by_places.Goals as goal

pub returns : goal.returns
returns c =
    let list = c.loop-pair.list.items in
    let sorted = c.sort_by_key.new.self.items in
    let all = c.deref-pair-items.ensures.len in
    second_reordered c.args.children.now list c.loop-child.keyed.items sorted c.loop-child.child c.loop-pair.pair-index
    c.loop-child.invariant (omega arith) c.sort_by_key.ensures.permutation
    (subst (λ xs. list ≡ map (λ p. p.1) (take c.loop-pair.pair-index xs)) c.deref-pair-items.ensures.value c.loop-pair.invariant) (let e = c.loop-pair-test.false in let f = all in omega arith)
