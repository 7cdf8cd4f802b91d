use Rattle.std.proofs.Common.{sym, subst}
use Rattle.htn_review.specs.Headline.{IsWant}
use Rattle.htn_review.proofs.Refusing.{err_more, ok_more}
use Rattle.htn_run.proofs.Saying.{cut_more, says_more}
use Rattle.htn_run.proofs.run.run_task_watched.Goals as goal

pub returns-clause-answer : goal.returns-clause-answer
returns-clause-answer g c =
    ok_more _ _ c.write_known.result
    (λ watched h. (h.0, says_more c.args.task.now c.args.bounds.nodes _ _ watched h.0 (λ p. c.in_ok-known.ensures.stopped p.0 p.1) h.1, h.2)) c.write_known.ensures.says

pub returns-clause-cut_short : goal.returns-clause-cut_short
returns-clause-cut_short g c =
    err_more _ _ c.write_known.result
    (λ fault h e. (let k = h e in (cut_more c.args.task.now c.args.bounds.nodes _ _ _ _ (λ p. c.in_ok-known.ensures.stopped p.0 p.1) k.0, k.1))) c.write_known.ensures.cut_short

pub returns-clause-refused : goal.returns-clause-refused
returns-clause-refused g c =
    err_more _ _ c.write_known.result (λ fault h other. let k = h other in (subst (IsWant c.args.bounds) (sym k.0) tt, k.1)) c.write_known.ensures.faults
