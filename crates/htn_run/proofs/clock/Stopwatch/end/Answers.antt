use Rattle.std.proofs.Common.{rules, ◌≡◌, true, inr, refl, sym, subst}
use Rattle.htn_run.specs.Progress.{IsProgress, Shows, end_line}
use Rattle.htn_run.specs.Showing.{shows_line}
use Rattle.htn_run.proofs.Watching.{gets_written}
use Rattle.htn_run.proofs.clock.Stopwatch.end.Goals as goal

pub returns-clause-shows : goal.returns-clause-shows
returns-clause-shows g c =
    let task = c.args.self.now.task.now in
    let old = c.args.self.now.err.now in
    let new = c.put_end-refused.new.out in
    let line = end_line c.as_secs-seconds.result c.args.watched in
    let shown : c.args.self.now.watching.has_progress ≡ true = search rules in
    subst (λ b. Shows g.E.Out.contents g.E.Out.has_failed (IsProgress task) b old new) (sym shown)
    (shows_line g.E.Out.contents g.E.Out.has_failed (IsProgress task) old new line
    (inr (c.as_secs-seconds.result, c.requires.says.0, c.args.watched, c.requires.says.1, refl, c.requires.says.2))
    (gets_written (g.E.Out.contents old) (g.E.Out.contents new) (g.E.Out.has_failed old) (g.E.Out.has_failed new) c.put_end-refused.result line c.put_end-refused.ensures))
