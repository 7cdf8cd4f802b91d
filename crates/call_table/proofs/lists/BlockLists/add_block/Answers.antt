use Rattle.std.proofs.Common.{sym, subst, ◌∷◌, []}
use Rattle.call_table.specs.Lists.{AreLinked}
use Rattle.call_table.proofs.Links.{linked_more}
use Rattle.call_table.proofs.lists.BlockLists.add_block.Goals as goal

pub invariant_of-self-2 : goal.invariant_of-self-2
invariant_of-self-2 c =
    subst (λ counts. AreLinked counts c.self.inside.links.items) (sym c.in_ok-push.ensures.items)
    (linked_more c.self.inside.counts.items (c.args.count ∷ []) c.self.inside.links.items c.self.invariant)
