use Rattle.std.proofs.Common.{sym, true≢false}
use Rattle.std.proofs.lemmas.Result.{err_from_is_err_and}
use Rattle.htn_run.proofs.Saying.{cut_known}
use Rattle.htn_run.proofs.run.run_task.Goals as goal

pub returns-in_err-watched-clause-cut_short : goal.returns-in_err-watched-clause-cut_short
returns-in_err-watched-clause-cut_short g c =
    let p = err_from_is_err_and c.from_residual.result c.from_residual.ensures.1 in
    rw (p.1, p.2)
    (λ is. (let h = c.in_err-watched.ensures.cut_short is in
    (cut_known c.args.task.now c.args.bounds.nodes _ (g.O.Out.contents c.args.out.now) (g.O.Out.contents c.run_task_watched.new.out) (λ bad. true≢false (sym bad)) h.0, h.1)))
