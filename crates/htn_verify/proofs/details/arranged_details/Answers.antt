use Rattle.htn_model.proofs.Grounded.{tasks_are_grounded}
use Rattle.htn_verify.proofs.Arranging.{are_lines, are_lines_of, are_placed}
use Rattle.htn_verify.proofs.details.arranged_details.Goals as goal

pub invariant_of-lines : goal.invariant_of-lines
invariant_of-lines c = record {
  placed = are_placed c.args.task.now c.args.file.now c.args.forest.now c.args.tasks.now c.requires.forest c.requires.tasks c.requires.count c.requires.ends c.args.turns.now c.requires.history;
  same = c.in_ok-ever.ensures;
}

pub of-requires : goal.of-requires
of-requires c = c.requires.history.history

pub find_details-requires-clause-lines : goal.find_details-requires-clause-lines
find_details-requires-clause-lines c =
    are_lines c.args.task.now c.args.file.now c.args.forest.now c.args.tasks.now c.requires.forest c.requires.tasks c.requires.count
    (tasks_are_grounded c.args.task.now c.initial_atoms-initial.ensures.typed)

pub find_details-requires-clause-file : goal.find_details-requires-clause-file
find_details-requires-clause-file c =
    are_lines_of c.args.task.now c.args.file.now c.args.forest.now c.args.tasks.now c.requires.forest c.requires.tasks c.requires.count c.requires.ends
