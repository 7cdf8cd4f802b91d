use Rattle.std.proofs.Common.{◌≡◌, ◌≤◌, take}
use Rattle.htn_plan.specs.Items.{items_of}
use Rattle.htn_plan.specs.Preorder.{compound_count}
use Rattle.htn_plan.proofs.compounds.count_compounds.Given as goal

abbrev pub invariant-loop-item : goal.invariant-loop-item
invariant-loop-item l = (l.count ≡ compound_count (items_of (take l.item-index l.items))) × (l.count ≤ l.item-index)
