use Rattle.std.proofs.Common.{[], subst, sym}
use Rattle.std.specs.List.{AllZip}
use Rattle.plan_messages.specs.Mentions.{IsMention, listed_by_lines, listed_by_root}
use Rattle.plan_messages.proofs.Mentioned.{same_lines}
use Rattle.plan_messages.proofs.mentions.listings.Goals as goal

pub returns : goal.returns
returns c =
    let none = subst (AllZip (IsMention c.text-text.result.now) []) (sym c.new-mentions.ensures.items) tt in
    same_lines listed_by_root listed_by_lines _ _ _ _ _ _ _ _ _ _ _ c.text-text.ensures c.roots.ensures.value c.as_slice.ensures.value
    c.decompositions.ensures.value c.as_slice-2.ensures.value (c.in_ok-add_children.ensures _ (c.in_ok-add_roots.ensures [] none))
