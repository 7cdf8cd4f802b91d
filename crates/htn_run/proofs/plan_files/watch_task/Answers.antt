use Rattle.std.proofs.Common.{ap}
use Rattle.htn_run.specs.Showing.{shows_on}
use Rattle.htn_run.proofs.plan_files.watch_task.Goals as goal

pub returns-clause-shows : goal.returns-clause-shows
returns-clause-shows g c =
    let before = c.args.watch.now in
    let after = c.run_task_watched.new.watch in
    let first = c.in_ok-watched.ensures.becomes in
    shows_on g.E.Out.contents g.E.Out.has_failed before.task.now after.task.now first.2 before.watching.has_progress after.watching.has_progress
    (ap (λ x. x.has_progress) first.1) before.err.now after.err.now c.end.new.self.err.now first.3 c.end.ensures.shows
