use Rattle.std.proofs.Common.{◌≡◌, ◌++◌, []}
use Rattle.htn_ground.specs.Trees.{Numbering, nodes_view}
use Rattle.htn_model.specs.Tree.{nodes_of}
use Rattle.htn_plan.specs.Ids.{id_of}
use Rattle.htn_plan.specs.Items.{levels_of, numbered_items}
use Rattle.htn_plan.specs.Preorder.{items_from}
use Rattle.htn_plan.specs.Walk.{pending, steps_left}
use Rattle.htn_plan.proofs.preorder.preorder.Given as goal

abbrev pub invariant-loop-frame : goal.invariant-loop-frame
invariant-loop-frame l =
    (numbers : Numbering) → numbered_items numbers l.items.items ++ pending (id_of l.ids) (levels_of numbers l.frames.items) ≡ items_from (id_of l.ids) [] 0 (nodes_of (nodes_view numbers l.trees))

-- whatever the numbers
abbrev pub decreases-loop-frame : goal.decreases-loop-frame
decreases-loop-frame l = steps_left (levels_of (λ g instance. 0) l.frames.items)
