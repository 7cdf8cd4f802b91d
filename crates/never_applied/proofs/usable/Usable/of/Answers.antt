use Rattle.std.proofs.Common.{◌≡◌, ◌∙◌, Some, ap, sym}
use Rattle.std.specs.Prelude.{slice_get}
use Rattle.htn_model.specs.Instances.{initials}
use Rattle.htn_ground.specs.Distinct.{distinct}
use Rattle.never_applied.specs.Fine.{IsTaskUsed}
use Rattle.never_applied.proofs.Growing.{all_before, starts_more, tasks_more}
use Rattle.never_applied.proofs.usable.Usable.of.Goals as goal

pub returns-in_default : goal.returns-in_default
returns-in_default c = record {
  starts = c.loop-place.invariant.starts;
  tasks = all_before (IsTaskUsed c.args.task.now c.args.fine.now c.loop-place.usable) c.loop-place.usable.tasks.keys c.loop-place.place (sym c.in_default.ensures.key) c.loop-place.invariant.tasks;
}

pub loop-place-preserved : goal.loop-place-preserved
loop-place-preserved c =
    let t = c.args.task.now in
    let f = c.args.fine.now in
    let old = c.loop-place.usable in
    let new = c.add_task.new.self in
    let did = c.in_ok-add_task.ensures in
    let at : slice_get old.tasks.keys c.loop-place.place ≡ Some c.in-Some.goal.now = sym c.in-Some.ensures.key in
    record {
      starts = starts_more old new did.more f (distinct (initials t)) c.loop-place.invariant.starts;
      tasks = tasks_more old new did.more f t c.loop-place.place c.in_ok-next.next (at ∙ ap Some (sym c.in_ok-next.ensures.cases)) c.loop-place.invariant.tasks did.there;
    }
