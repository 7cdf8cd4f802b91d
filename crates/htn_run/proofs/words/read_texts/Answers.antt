use Rattle.std.proofs.Common.{[], ◌∷◌}
use Rattle.htn_run.proofs.FileReads.{notes_all, notes_more}
use Rattle.htn_run.proofs.words.read_texts.Goals as goal

pub returns-in_err-problem-clause-reads : goal.returns-in_err-problem-clause-reads
returns-in_err-problem-clause-reads g c =
    notes_all _ _ _ (notes_more _ _ _ (c.args.domain.now ∷ []) (c.args.problem.now ∷ []) c.in_ok-domain.ensures.noted c.in_err-problem.ensures.noted)

pub returns-clause-reads : goal.returns-clause-reads
returns-clause-reads g c =
    notes_all _ _ _ (notes_more _ _ _ (c.args.domain.now ∷ []) (c.args.problem.now ∷ []) c.in_ok-domain.ensures.noted c.in_ok-problem.ensures.noted)
