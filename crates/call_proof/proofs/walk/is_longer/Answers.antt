use Rattle.std.proofs.Common.{◌≤◌, subst, arith}
use Rattle.call_table.specs.Lists.{Lists, list_at, nodes_of}
use Rattle.call_proof.proofs.Numbers.{sizes_left}
use Rattle.call_proof.proofs.walk.is_longer.Goals as goal

pub returns-then-left-size : goal.returns-then-left-size
returns-then-left-size c = λ _ ends cap are.
    (let l = c.args.nodes.now.lists in
    let p = c.args.proposal.now in
    let front : c.nodes.result ≤ nodes_of l.counts (list_at l c.args.rule.now.blocks) =
    subst (λ (m : Lists). c.nodes.result ≤ nodes_of m.counts (list_at m c.args.rule.now.blocks)) c.lists-lists.ensures.value c.nodes.ensures in
    let back : c.nodes-2.result ≤ nodes_of l.counts (list_at l c.args.rest) =
    subst (λ (m : Lists). c.nodes-2.result ≤ nodes_of m.counts (list_at m c.args.rest)) c.lists-lists.ensures.value c.nodes-2.ensures in
    let size = c.saturating_add-size.ensures in
    let less = c.if-left-size.true in
    sizes_left l p.table p.values ends cap c.args.left c.nodes.result c.nodes-2.result c.args.rule.now.state
    (list_at l c.args.rule.now.blocks) (list_at l c.args.rest) front back (omega arith))
