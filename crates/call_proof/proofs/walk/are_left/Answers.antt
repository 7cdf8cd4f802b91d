use Rattle.std.proofs.Common.{refl, arith}
use Rattle.std.proofs.lemmas.List.Elements.{All-more}
use Rattle.call_table.specs.Lists.{list_at}
use Rattle.call_table.proofs.Followed.{all_taken}
use Rattle.call_proof.specs.Ways.{AreLeft}
use Rattle.call_proof.proofs.walk.are_left.Goals as goal

pub loop-list-preserved : goal.loop-list-preserved
loop-list-preserved c =
    let l = c.args.nodes.now.lists in
    let p = c.args.proposal.now in
    All-more (λ k. AreLeft l p.table p.values c.args.steps 0 (list_at l k)) c.args.lists.now c.loop-list.list-index 0 c.loop-list-test.true
    c.loop-list.invariant
    (λ ends cap are. (let most = c.steps_left.ensures ends cap are in let enough = c.if-steps_left-steps.false in omega arith))

pub returns : goal.returns
returns c = λ _.
    (let l = c.args.nodes.now.lists in
    let p = c.args.proposal.now in
    all_taken (λ k. AreLeft l p.table p.values c.args.steps 0 (list_at l k)) c.args.lists.now c.args.lists.now c.loop-list.list-index refl
    c.loop-list-test.false c.loop-list.invariant)
