use Rattle.std.proofs.Common.{IfSome, ◌∙◌, subst, sym}
use Rattle.htn_ground.specs.Views.{children_of}
use Rattle.htn_model.specs.Fits.{subtask_positions}
use Rattle.htn_model.specs.PlanFile.{IsRearrangementOf}
use Rattle.plan_text.specs.Reached.{AreMet}
use Rattle.line_details.proofs.Seen.{listed_once}
use Rattle.line_details.proofs.room.lists_subtasks.Goals as goal

pub returns-in-Some : goal.returns-in-Some
returns-in-Some c = λ yes.
    let nodes = c.as_slice-nodes.result.now in
    let positions = c.args.positions.now in
    let found = subst (λ o. IfSome o (λ m. AreMet m.items positions)) c.in-Some.is c.in_ok-marks.ensures in
    let met = subst (λ m. AreMet m positions) (sym c.deref.ensures.value) found in
    subst (λ ns. IsRearrangementOf positions (subtask_positions 0 ns)) (c.as_slice-nodes.ensures ∙ c.children.ensures)
    (listed_once (children_of nodes) c.deref.result.now positions met (c.are_subtasks.ensures yes))
