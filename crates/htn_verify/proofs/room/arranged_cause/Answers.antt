use Rattle.htn_model.proofs.Grounded.{tasks_are_grounded}
use Rattle.plan_room.specs.Lines.{FileFits}
use Rattle.room_causes.specs.Conflicts.{IsRoomCause}
use Rattle.htn_verify.specs.Placed.{placed_lines}
use Rattle.htn_verify.proofs.Arranging.{are_lines, are_placed}
use Rattle.htn_verify.proofs.Caused.{cause_alone}
use Rattle.htn_verify.proofs.room.arranged_cause.Goals as goal

pub invariant_of-lines : goal.invariant_of-lines
invariant_of-lines c = record {
  placed = are_placed c.args.task.now c.args.file.now c.args.forest.now c.args.tasks.now c.requires.forest c.requires.tasks c.requires.count c.requires.ends c.args.turns.now c.requires.history;
  same = c.in_ok-ever.ensures;
}

pub of-requires : goal.of-requires
of-requires c = c.requires.history.history

pub room_cause_of-requires : goal.room_cause_of-requires
room_cause_of-requires c =
    are_lines c.args.task.now c.args.file.now c.args.forest.now c.args.tasks.now c.requires.forest c.requires.tasks c.requires.count
    (tasks_are_grounded c.args.task.now c.initial_atoms-initial.ensures.typed)

pub returns : goal.returns
returns c =
    let l = placed_lines c.args.task.now c.args.file.now c.args.forest.now c.args.tasks.now in
    cause_alone (FileFits l) (IsRoomCause l) c.in_ok-cause.cause c.in_ok-cause.ensures
