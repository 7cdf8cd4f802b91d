use Rattle.std.proofs.Common.{◌<◌, arith, length, sym}
use Rattle.std.proofs.lemmas.List.{length-take-le}
use Rattle.std.proofs.lemmas.Option.{slice_get_within}
use Rattle.plan_findings.proofs.Running.{changes_before_are}
use Rattle.plan_findings.proofs.run.changes_before.Goals as goal

pub slice_bounds-done-end : goal.slice_bounds-done-end
slice_bounds-done-end c =
    let low : c.args.number < length c.args.tasks.now = slice_get_within c.args.tasks.now c.args.number c.requires.task c.requires.is in
    sym (length-take-le c.args.number c.args.tasks.now (omega arith))

pub first_changes-requires : goal.first_changes-requires
first_changes-requires c = (c.requires.state, c.requires.reaches)

pub returns : goal.returns
returns c = changes_before_are c.args.task.now c.args.tasks.now c.args.number _ c.requires c.in_ok-changes.ensures
