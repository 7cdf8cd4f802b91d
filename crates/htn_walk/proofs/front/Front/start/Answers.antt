use Rattle.std.proofs.Common.{◌∙◌, sym, ap, length}
use Rattle.std.proofs.lemmas.List.{length-map, length-reverse}
use Rattle.htn_ground.specs.Views.{child_view}
use Rattle.htn_walk.proofs.Whole.{initial_whole}
use Rattle.htn_walk.proofs.front.Front.start.Goals as goal

pub invariant_of-result : goal.invariant_of-result
invariant_of-result c =
    let slice = c.as_slice.result.now in
    ap length (c.in_ok-order.ensures.cases ∙ c.order.ensures)
    ∙ initial_whole c.args.task.now c.initial_atoms.ensures.typed c.args.initial.now c.requires
    ∙ sym (ap length (c.as_slice.ensures ∙ c.children.ensures)) ∙ length-map slice child_view
    ∙ sym (ap length c.in_ok-nodes.ensures) ∙ length-reverse c.in_ok-nodes.nodes.items
