use Rattle.std.proofs.Common.{◌∙◌, [], append-nil, sym}
use Rattle.call_nodes.proofs.Numbering.{numbered_stays}
use Rattle.call_nodes.proofs.list_table.ListTable.add_node.Goals as goal

pub invariant_of-self-2 : goal.invariant_of-self-2
invariant_of-self-2 c =
    numbered_stays c.self.inside.lists c.add_block.new.self c.self.inside.numbers ([], c.in_ok-number.ensures.lists ∙ sym (append-nil c.self.inside.lists.lists)) c.self.invariant
