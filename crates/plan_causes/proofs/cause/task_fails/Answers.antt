use Rattle.std.proofs.Common.{◌≡◌, ◌<◌, ◌≤◌, length, Some, slice_get, sym, ◌∙◌, arith}
use Rattle.std.proofs.lemmas.Option.{get_or_from_slice_get, slice_get_within}
use Rattle.htn_model.specs.Grounding.{problem_of}
use Rattle.plan_causes.proofs.Standings.{stand_for_after}
use Rattle.plan_causes.proofs.cause.task_fails.Goals as goal

pub returns : goal.returns
returns c =
    let tasks = c.args.tasks.now in
    let n = c.args.number in
    let low = slice_get_within tasks n c.requires.task c.requires.is in (
      c.requires,
      λ g is.
          stand_for_after (problem_of c.args.task.now) tasks n c.in_ok-turns.turns c.in_ok-turns.ensures (omega arith) c.index-tasks-number.result c.in_ok-standings.standings.items
          c.in_ok-standings.ensures g (sym (c.index-tasks-number.is ∙ get_or_from_slice_get tasks n g c.index-tasks-number.result is)),
    )
