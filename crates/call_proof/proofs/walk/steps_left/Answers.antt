use Rattle.std.proofs.Common.{◌≤◌, subst, arith}
use Rattle.call_table.specs.Estimates.{value_at}
use Rattle.call_table.specs.Lists.{Lists}
use Rattle.call_proof.proofs.Numbers.{value_below}
use Rattle.call_proof.proofs.walk.steps_left.Goals as goal

pub returns : goal.returns
returns c = λ ends cap are.
    (let n = c.args.nodes.now in
    let p = c.args.proposal.now in
    let stored : c.value_of.result ≤ value_at n.lists p.values c.args.list c.args.state =
    subst (λ (l : Lists). c.value_of.result ≤ value_at l p.values c.args.list c.args.state) c.lists.ensures.value c.value_of.ensures.least in
    let most = value_below n.lists p.table p.values ends cap are c.args.list c.args.state in
    omega arith)
