use Rattle.std.proofs.Common.{◌≡◌, ◌-◌, [], length, get_or, IfSome, subst, arith}
use Rattle.call_table.specs.Lists.{Lists, list_at}
use Rattle.call_proof.specs.Ways.{IsRankedStep}
use Rattle.call_proof.proofs.Ways.{way_before, way_ends}
use Rattle.call_proof.proofs.walk.is_way.Goals as goal

pub loop-k-preserved : goal.loop-k-preserved
loop-k-preserved c = λ way.
    (let l = c.args.nodes.now.lists in
    let p = c.args.proposal.now in
    let ranks = c.args.ranks.now in
    let at = c.loop-k.at in
    let left = length ranks - 1 - c.loop-k.k in
    let inside = c.loop-k-test.true in
    let step = subst (λ o. IfSome o (λ next. IsRankedStep l p.table p.values at.state (list_at l at.number) (get_or ranks c.loop-k.k 0) left
    (λ s ns. (s ≡ next.state) × (ns ≡ list_at l next.number)))) c.in-Some.is c.in_ok-next.ensures in
    c.loop-k.invariant
    (way_before l p.table p.values c.args.ends.now ranks c.loop-k.k 0 left at c.in-Some.next inside (omega arith) step way))

pub returns-in-None : goal.returns-in-None
returns-in-None c = λ goal_holds.
    (let l = c.args.nodes.now.lists in
    let p = c.args.proposal.now in
    let at = c.loop-k.at in
    let none : list_at l at.number ≡ [] = subst (λ (m : Lists). list_at m at.number ≡ []) c.lists.ensures.value c.in-None.ensures.none in
    c.loop-k.invariant
    (way_ends l p.table p.values c.args.ends.now c.args.ranks.now c.loop-k.k at c.loop-k-test.false none (c.is_end.ensures goal_holds)))
