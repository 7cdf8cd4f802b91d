use Rattle.std.proofs.Common.{inl, refl}
use Rattle.htn_run.specs.Progress.{IsProgress, progress_line}
use Rattle.htn_run.specs.Showing.{shows_line}
use Rattle.htn_run.proofs.Watching.{gets_written, none_within}
use Rattle.htn_run.proofs.clock.Stopwatch.show.Goals as goal

pub returns-clause-shows : goal.returns-clause-shows
returns-clause-shows g c =
    let task = c.args.self.now.task.now in
    let old = c.args.self.now.err.now in
    let new = c.put_progress-refused.new.out in
    let line = progress_line c.as_secs.result c.args.news.bound c.args.news.configurations c.checked_sub.result in
    shows_line g.E.Out.contents g.E.Out.has_failed (IsProgress task) old new line
    (inl (c.as_secs.result, c.args.news.bound, c.args.news.configurations, c.checked_sub.result, refl, none_within task c.args.news.none_below c.checked_sub.result c.checked_sub.ensures c.requires.none))
    (gets_written (g.E.Out.contents old) (g.E.Out.contents new) (g.E.Out.has_failed old) (g.E.Out.has_failed new) c.put_progress-refused.result line c.put_progress-refused.ensures)
