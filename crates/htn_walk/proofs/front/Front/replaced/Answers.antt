use Rattle.std.proofs.Common.{◌≡◌, ◌+◌, ◌-◌, ◌<◌, ◌∙◌, ◌++◌, suc, length, take, drop, reverse, sym, ap, arith}
use Rattle.std.specs.Arc.{arc_value}
use Rattle.htn_ground.specs.Views.{children_of}
use Rattle.htn_model.specs.Choice.{child_of}
use Rattle.htn_model.specs.Machine.{Config, replaced}
use Rattle.htn_walk.proofs.Stepped.{is_replaced, kept_len, node_kept, nodes_spliced, order_whole}
use Rattle.htn_walk.proofs.front.Front.replaced.Goals as goal

pub invariant_of-front : goal.invariant_of-front
invariant_of-front c =
    let old = c.self.inside.nodes.items in
    let i = c.args.position in
    let at = c.len.result - 1 - i in
    let from : Config = record { state = c.self.inside.state.value; open_nodes = children_of (reverse old); order = c.self.inside.order } in
    let long : suc at + i ≡ length old = omega (arith, c.requires.placed, c.len.ensures, kept_len old, ap (λ (m : Config). length m.open_nodes) c.self.view_is) in
    let next : at + 1 ≡ suc at = omega arith in
    let placed : i < length from.open_nodes = omega (arith, long, kept_len old) in
    let nodes = nodes_spliced old at i long c.split_off.new.self.items (c.in_ok-earlier.ensures.items ∙ ap (λ k. take k old) next)
    c.in_ok-earlier.earlier.items c.in_ok-others.others.items c.args.children.now c.append-2.new.self.items (c.in_ok-earlier.ensures.tail ∙ ap (λ k. drop k old) next) c.in_ok-others.ensures
    (c.in_ok-append-2.ensures.items ∙ ap (λ xs. xs ++ c.in_ok-earlier.earlier.items) (c.in_ok-append.ensures.items ∙ ap (λ xs. xs ++ c.in_ok-others.others.items) c.remove-node.ensures.items)) in
    order_whole from i c.args.children.now c.args.inner.now c.in_ok-order.order (c.self.invariant ∙ sym (kept_len old)) placed c.requires.whole c.in_ok-order.ensures c.append-2.new.self.items nodes

pub returns-clause-node : goal.returns-clause-node
returns-clause-node c =
    let old = c.self.inside.nodes.items in
    let at = c.len.result - 1 - c.args.position in
    let long : suc at + c.args.position ≡ length old = omega (arith, c.requires.placed, c.len.ensures, kept_len old, ap (λ (m : Config). length m.open_nodes) c.self.view_is) in
    let next : at + 1 ≡ suc at = omega arith in
    node_kept old at c.args.position long c.split_off.new.self.items (c.in_ok-earlier.ensures.items ∙ ap (λ k. take k old) next) c.remove-node.result c.remove-node.ensures.value
    ∙ ap (λ (m : Config). child_of m.open_nodes c.args.position) c.self.view_is

pub returns-clause-front : goal.returns-clause-front
returns-clause-front c =
    let old = c.self.inside.nodes.items in
    let i = c.args.position in
    let at = c.len.result - 1 - i in
    let from : Config = record { state = c.self.inside.state.value; open_nodes = children_of (reverse old); order = c.self.inside.order } in
    let long : suc at + i ≡ length old = omega (arith, c.requires.placed, c.len.ensures, kept_len old, ap (λ (m : Config). length m.open_nodes) c.self.view_is) in
    let next : at + 1 ≡ suc at = omega arith in
    let placed : i < length from.open_nodes = omega (arith, long, kept_len old) in
    let nodes = nodes_spliced old at i long c.split_off.new.self.items (c.in_ok-earlier.ensures.items ∙ ap (λ k. take k old) next)
    c.in_ok-earlier.earlier.items c.in_ok-others.others.items c.args.children.now c.append-2.new.self.items (c.in_ok-earlier.ensures.tail ∙ ap (λ k. drop k old) next) c.in_ok-others.ensures
    (c.in_ok-append-2.ensures.items ∙ ap (λ xs. xs ++ c.in_ok-earlier.earlier.items) (c.in_ok-append.ensures.items ∙ ap (λ xs. xs ++ c.in_ok-others.others.items) c.remove-node.ensures.items)) in
    is_replaced from i c.args.children.now c.args.inner.now c.in_ok-order.order (c.self.invariant ∙ sym (kept_len old)) placed c.requires.whole c.in_ok-order.ensures c.append-2.new.self.items nodes (arc_value c.args.state)
    ∙ ap (λ (m : Config). replaced m i (record { children = children_of c.args.children.now; order = c.args.inner.now }) (arc_value c.args.state)) c.self.view_is
