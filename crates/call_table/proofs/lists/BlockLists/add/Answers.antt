use Rattle.std.proofs.Common.{◌≡◌, ◌≤◌, ◌<◌, [], get_or, length, sym, ap, subst, ◌∙◌, arith}
use Rattle.call_table.specs.Lists.{AreLinked, lists_of, nodes_of}
use Rattle.call_table.proofs.Links.{linked_push, lists_len}
use Rattle.call_table.proofs.lists.BlockLists.add.Goals as goal

pub invariant_of-self-2 : goal.invariant_of-self-2
invariant_of-self-2 c =
    let counts = c.self.inside.counts.items in
    let links = c.self.inside.links.items in
    let lists : c.args.self.now.lists ≡ lists_of links = ap (λ l. l.lists) (sym c.self.view_is) in
    let low : c.args.rest < length (lists_of links) = subst (λ ls. c.args.rest < length ls) lists c.requires in
    let one : c.count.result ≡ get_or counts c.args.first 0 = c.count.ensures ∙ ap (λ l. get_or l.counts c.args.first 0) (sym c.self.view_is) in
    let rest : c.nodes.result ≤ nodes_of counts (get_or (lists_of links) c.args.rest []) =
    subst (λ l. c.nodes.result ≤ nodes_of l.counts (get_or l.lists c.args.rest [])) (sym c.self.view_is) c.nodes.ensures in
    let sum = c.saturating_add-nodes.ensures in
    subst (AreLinked counts) (sym c.in_ok-push.ensures.items)
    (linked_push counts links (record { first = c.args.first; rest = c.args.rest; nodes = c.saturating_add-nodes.result }) c.self.invariant low (omega arith))

pub returns-clause-number : goal.returns-clause-number
returns-clause-number c =
    let lists : length c.args.self.now.lists ≡ length (lists_of c.self.inside.links.items) = ap (λ l. length l.lists) (sym c.self.view_is) in
    let many = lists_len c.self.inside.links.items in
    let len = c.len.ensures in
    grind (arith)
