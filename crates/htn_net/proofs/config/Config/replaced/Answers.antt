use Rattle.std.proofs.Common.{◌<◌, ◌+◌, ◌-◌, ◌∙◌, ap, length, arith}
use Rattle.htn_model.specs.Machine.{replaced_order}
use Rattle.htn_model.proofs.Splices.{length_splice, table_square}
use Rattle.htn_net.proofs.config.Config.replaced.Goals as goal

pub invariant_of-result : goal.invariant_of-result
invariant_of-result c =
    let order = c.self.inside.order in
    let nodes = c.self.inside.open_nodes in
    let inner = c.args.order.now in
    let children = c.args.children.now in
    let whole = c.self.invariant in
    let placed : c.args.at < length nodes = omega (arith, c.requires.placed, ap length (ap (λ m. m.open_nodes) c.self.view_is)) in
    let left = ap length c.in_ok-order.ensures ∙ (table_square (length order - 1 + length inner) (replaced_order order c.args.at (length inner) inner)).0 in
    let right = length_splice c.args.at children nodes placed in
    let nodes_are = ap length c.in_ok-open_nodes.ensures in
    omega (arith, c.requires.whole)
