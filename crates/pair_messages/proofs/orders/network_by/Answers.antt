use Rattle.pair_messages.proofs.Networks.{network_at}
use Rattle.pair_messages.proofs.orders.network_by.Goals as goal

pub returns : goal.returns
returns c =
    let t = c.args.index.now.texts.now in
    network_at t.domain_tree.now t.problem_tree.now c.args.at.source c.in_ok-section.section c.in_ok-network.network.now c.in_ok-section.ensures c.in_ok-network.ensures
