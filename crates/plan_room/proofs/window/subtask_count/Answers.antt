use Rattle.std.proofs.Common.{◌∙◌, length, ap, arith}
use Rattle.std.proofs.lemmas.List.{length-map}
use Rattle.htn_ground.specs.Views.{child_view}
use Rattle.plan_room.proofs.Subtasks.{counted, counted_low, is_subtask}
use Rattle.plan_room.proofs.window.subtask_count.Goals as goal

pub overflow_add-count : goal.overflow_add-count
overflow_add-count c =
    let low = counted_low c.as_slice-child-items.result.now c.loop-child.child-index c.loop-child.count c.child-item.result c.loop-child-test.true c.child-item.is
    (is_subtask c.child-item.result c.in_default.not-Precondition) c.loop-child.invariant in
    let e = c.len-size.ensures in let t = c.len-size.type_inv in
    let f = length-map c.as_slice-child-items.result.now child_view in
    let h = ap length c.as_slice-child-items.ensures in omega arith

pub returns : goal.returns
returns c = counted c.as_slice-child-items.result.now c.args.instance.now.network.children c.loop-child.child-index c.loop-child.count (c.as_slice-child-items.ensures ∙ c.children-nodes.ensures)
    c.loop-child-test.false c.loop-child.invariant
