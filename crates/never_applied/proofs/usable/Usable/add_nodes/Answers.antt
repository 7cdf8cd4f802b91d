use Rattle.never_applied.proofs.Growing.{more_itself, more_then, nodes_next, nodes_taken}
use Rattle.std.proofs.Common.{refl}
use Rattle.never_applied.proofs.usable.Usable.add_nodes.Goals as goal

pub loop-node-init : goal.loop-node-init
loop-node-init c = record { more = more_itself c.args.self.now; there = refl }

pub loop-node-preserved : goal.loop-node-preserved
loop-node-preserved c =
    let old = c.loop-node.self in
    let new = c.add_node.new.self in
    let did = c.in_ok-add_node.ensures in
    record {
      more = more_then c.args.self.now old new c.loop-node.invariant.more did.more;
      there = nodes_next old new did.more c.args.nodes.now c.loop-node.node-index c.node-item.result c.loop-node-test.true c.node-item.is c.loop-node.invariant.there did.there;
    }

pub returns-clause-there : goal.returns-clause-there
returns-clause-there c = nodes_taken c.loop-node.self c.args.nodes.now c.loop-node.node-index c.loop-node-test.false c.loop-node.invariant.there
