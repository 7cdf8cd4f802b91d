use Rattle.std.proofs.Common.{[], ◌∷◌, subst}
use Rattle.std.proofs.lemmas.Result.{err_from_is_err_and}
use Rattle.htn_command.specs.declared.request.Request.TheVariants.{Verify}
use Rattle.htn_run.specs.Files.{MayGive}
use Rattle.htn_run.proofs.FileReads.{notes_all, notes_before, notes_more}
use Rattle.htn_run.proofs.Stopping.{given, stops_by}
use Rattle.htn_run.proofs.words.verify_files.Goals as goal

pub returns-in_err-verdict-clause-stopped : goal.returns-in_err-verdict-clause-stopped
returns-in_err-verdict-clause-stopped g c =
    let p = err_from_is_err_and c.from_residual-in_err-verdict.result c.from_residual-in_err-verdict.ensures.1 in
    let d = given _ _ _ c.as_slice.ensures.value c.in_ok-domain.ensures.bytes.0 in
    let q = given _ _ _ c.as_slice-2.ensures.value c.in_ok-domain.ensures.bytes.1 in
    let read = subst (λ file. MayGive file c.in_ok-plan.plan.items) (c.in_ok-domain.ensures.kept c.args.plan.now) c.in_ok-plan.ensures.bytes in
    let f = given _ _ _ c.as_slice-3.ensures.value read in
    rw (p.1, p.2)
    (stops_by g.O.Out.contents g.O.Out.has_failed (g.S.Source.files c.args.files.now) (Verify c.args.domain c.args.problem c.args.plan)
    c.args.out.now c.run_verify.new.out c.in_err-verdict.field-0.0 tt
    (λ other. let h = c.in_err-verdict.ensures.refused other in ((_, _, d, q, (_, f, h.0)), h.1))
    (λ output. let h = c.in_err-verdict.ensures.cut_short output in ((_, _, d, q, (_, f, h.0)), h.1)))

pub returns-clause-answered : goal.returns-clause-answered
returns-clause-answered g c =
    let d = given _ _ _ c.as_slice.ensures.value c.in_ok-domain.ensures.bytes.0 in
    let q = given _ _ _ c.as_slice-2.ensures.value c.in_ok-domain.ensures.bytes.1 in
    let read = subst (λ file. MayGive file c.in_ok-plan.plan.items) (c.in_ok-domain.ensures.kept c.args.plan.now) c.in_ok-plan.ensures.bytes in
    let f = given _ _ _ c.as_slice-3.ensures.value read in
    let h = c.in_ok-verdict.ensures.verdict in
    (h.0, (_, _, d, q, (_, f, h.1)), h.2)

pub returns-in_err-domain-clause-reads : goal.returns-in_err-domain-clause-reads
returns-in_err-domain-clause-reads g c =
    notes_before _ _ (c.args.domain.now ∷ c.args.problem.now ∷ []) (c.args.plan.now ∷ []) c.in_err-domain.ensures.reads

pub returns-in_err-plan-clause-reads : goal.returns-in_err-plan-clause-reads
returns-in_err-plan-clause-reads g c =
    notes_all _ _ _ (notes_more _ _ _ (c.args.domain.now ∷ c.args.problem.now ∷ []) (c.args.plan.now ∷ []) c.in_ok-domain.ensures.all c.in_err-plan.ensures.noted)

pub returns-in_err-verdict-clause-reads : goal.returns-in_err-verdict-clause-reads
returns-in_err-verdict-clause-reads g c =
    notes_all _ _ _ (notes_more _ _ _ (c.args.domain.now ∷ c.args.problem.now ∷ []) (c.args.plan.now ∷ []) c.in_ok-domain.ensures.all c.in_ok-plan.ensures.noted)

pub returns-clause-reads : goal.returns-clause-reads
returns-clause-reads g c =
    notes_all _ _ _ (notes_more _ _ _ (c.args.domain.now ∷ c.args.problem.now ∷ []) (c.args.plan.now ∷ []) c.in_ok-domain.ensures.all c.in_ok-plan.ensures.noted)
