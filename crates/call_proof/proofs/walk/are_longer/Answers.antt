use Rattle.std.proofs.Common.{◌+◌, ◌++◌, refl}
use Rattle.std.proofs.lemmas.List.Elements.{All-more}
use Rattle.call_table.specs.Lists.{list_at}
use Rattle.call_table.specs.declared.call.Rule.{Rule}
use Rattle.call_table.proofs.Followed.{all_taken}
use Rattle.call_proof.specs.Ways.{AreLeft}
use Rattle.call_proof.proofs.walk.are_longer.Goals as goal

pub loop-rule-preserved : goal.loop-rule-preserved
loop-rule-preserved c =
    let l = c.args.nodes.now.lists in
    let p = c.args.proposal.now in
    All-more (λ (r : Rule). AreLeft l p.table p.values (c.args.left + 1) r.state (list_at l r.blocks ++ list_at l c.args.rest)) c.args.rules.now
    c.loop-rule.rule-index (record { state = 0; blocks = 0 }) c.loop-rule-test.true c.loop-rule.invariant
    (c.in_ok-is_longer.ensures c.if-not-branch.false)

pub returns : goal.returns
returns c = λ _.
    (let l = c.args.nodes.now.lists in
    let p = c.args.proposal.now in
    all_taken (λ (r : Rule). AreLeft l p.table p.values (c.args.left + 1) r.state (list_at l r.blocks ++ list_at l c.args.rest)) c.args.rules.now
    c.args.rules.now c.loop-rule.rule-index refl c.loop-rule-test.false c.loop-rule.invariant)
