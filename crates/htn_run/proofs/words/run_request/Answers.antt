use Rattle.std.proofs.Common.{refl}
use Rattle.htn_review.proofs.Refusing.{ok_more, err_more}
use Rattle.htn_run.proofs.words.run_request.Goals as goal

pub returns-in-Tree-clause-answered : goal.returns-in-Tree-clause-answered
returns-in-Tree-clause-answered g c =
    rw c.in-Tree.is (ok_more _ _ c.tree_files.result (λ reply h. h c.in-Tree.colour c.has_colour-in-Tree.ensures) c.tree_files.ensures.answered)

pub returns-in-Tree-clause-stopped : goal.returns-in-Tree-clause-stopped
returns-in-Tree-clause-stopped g c =
    rw c.in-Tree.is (err_more _ _ c.tree_files.result (λ stop h. h c.in-Tree.colour) c.tree_files.ensures.stopped)

pub returns-in-Explain-clause-answered : goal.returns-in-Explain-clause-answered
returns-in-Explain-clause-answered g c =
    rw c.in-Explain.is (ok_more _ _ c.explain_files.result (λ reply h. h c.in-Explain.colour c.has_colour-in-Explain.ensures) c.explain_files.ensures.answered)

pub returns-in-Explain-clause-stopped : goal.returns-in-Explain-clause-stopped
returns-in-Explain-clause-stopped g c =
    rw c.in-Explain.is (err_more _ _ c.explain_files.result (λ stop h. h c.in-Explain.colour c.has_colour-in-Explain.ensures) c.explain_files.ensures.stopped)

pub returns-in-Plan-clause-shows : goal.returns-in-Plan-clause-shows
returns-in-Plan-clause-shows g c = rw c.in-Plan.is c.plan_files.ensures.shows

pub returns-in-Verify-clause-shows : goal.returns-in-Verify-clause-shows
returns-in-Verify-clause-shows g c = rw c.in-Verify.is refl

pub returns-in-Check-clause-shows : goal.returns-in-Check-clause-shows
returns-in-Check-clause-shows g c = rw c.in-Check.is refl

pub returns-in-Tree-clause-shows : goal.returns-in-Tree-clause-shows
returns-in-Tree-clause-shows g c = rw c.in-Tree.is refl

pub returns-in-Explain-clause-shows : goal.returns-in-Explain-clause-shows
returns-in-Explain-clause-shows g c = rw c.in-Explain.is refl
