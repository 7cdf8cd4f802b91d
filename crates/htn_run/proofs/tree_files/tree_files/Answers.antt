use Rattle.std.proofs.Common.{[], ◌∷◌, ◌∙◌, ap, refl, subst}
use Rattle.std.proofs.lemmas.Result.{err_from_is_err_and}
use Rattle.htn_command.specs.declared.request.Request.TheVariants.{Tree}
use Rattle.htn_run.specs.Reading.{file_of}
use Rattle.htn_run.specs.Files.{MayGive}
use Rattle.htn_run.proofs.FileReads.{notes_all, notes_before, notes_more}
use Rattle.htn_run.proofs.Reporting.{given_of}
use Rattle.htn_run.proofs.Stopping.{stops_undrawn, stops_unread, stops_without_plan}
use Rattle.htn_run.proofs.tree_files.tree_files.Goals as goal

pub returns-in_err-drawn-clause-stopped : goal.returns-in_err-drawn-clause-stopped
returns-in_err-drawn-clause-stopped g c =
    let p = err_from_is_err_and c.from_residual-in_err-drawn.result c.from_residual-in_err-drawn.ensures.1 in
    let files = g.S.Source.files c.args.files.now in
    let d = given_of files c.args.domain.now _ _ _ c.file_of.ensures c.as_slice.ensures.value c.in_ok-first.ensures.bytes.0 in
    let q = given_of files c.args.problem.now _ _ _ c.file_of-2.ensures c.as_slice-2.ensures.value c.in_ok-first.ensures.bytes.1 in
    let read = subst (λ file. MayGive file c.in_ok-third.third.items) (c.in_ok-first.ensures.kept c.file_of-3.result.now) c.in_ok-third.ensures.bytes in
    let f = given_of files c.args.plan.now _ _ _ c.file_of-3.ensures c.as_slice-3.ensures.value read in
    rw (p.1, p.2)
    (λ colour. stops_undrawn g.O.Out.contents g.O.Out.has_failed files c.args.domain c.args.problem c.args.plan c.args.look.drawing c.args.look.has_details colour
    c.args.out.now c.run_tree.new.out _ _ _ d q f c.in_err-drawn.field-0.0 c.in_err-drawn.ensures.refused c.in_err-drawn.ensures.cut_short)

pub returns-clause-answered : goal.returns-clause-answered
returns-clause-answered g c colour may =
    let files = g.S.Source.files c.args.files.now in
    let d = given_of files c.args.domain.now _ _ _ c.file_of.ensures c.as_slice.ensures.value c.in_ok-first.ensures.bytes.0 in
    let q = given_of files c.args.problem.now _ _ _ c.file_of-2.ensures c.as_slice-2.ensures.value c.in_ok-first.ensures.bytes.1 in
    let read = subst (λ file. MayGive file c.in_ok-third.third.items) (c.in_ok-first.ensures.kept c.file_of-3.result.now) c.in_ok-third.ensures.bytes in
    let f = given_of files c.args.plan.now _ _ _ c.file_of-3.ensures c.as_slice-3.ensures.value read in
    let h = c.in_ok-drawn.ensures.drawn in
    (h.0, (_, _, d, q, (_, f, (c.args.look, (refl, refl, may), h.1))), h.2)

pub returns-in_err-first-clause-stopped : goal.returns-in_err-first-clause-stopped
returns-in_err-first-clause-stopped g c =
    let p = err_from_is_err_and c.from_residual.result c.from_residual.ensures.1 in
    rw (p.1, p.2)
    (λ colour. stops_unread g.O.Out.contents g.O.Out.has_failed (g.S.Source.files c.args.files.now) c.args.domain c.args.problem c.args.plan c.args.look.drawing c.args.look.has_details colour
    c.args.out.now _ _ c.file_of.ensures c.file_of-2.ensures c.in_err-first.field-0.0 c.in_err-first.ensures.unread)

pub returns-in_err-third-clause-stopped : goal.returns-in_err-third-clause-stopped
returns-in_err-third-clause-stopped g c =
    let p = err_from_is_err_and c.from_residual-in_err-third.result c.from_residual-in_err-third.ensures.1 in
    let files = g.S.Source.files c.args.files.now in
    let d = subst (λ n. MayGive (files n) c.in_ok-first.first.items) c.file_of.ensures c.in_ok-first.ensures.bytes.0 in
    let q = subst (λ n. MayGive (files n) c.in_ok-first.second.items) c.file_of-2.ensures c.in_ok-first.ensures.bytes.1 in
    rw (p.1, p.2)
    (λ colour. stops_without_plan g.O.Out.contents g.O.Out.has_failed files c.args.domain c.args.problem c.args.plan c.args.look.drawing c.args.look.has_details colour
    c.args.out.now _ _ d q _ (c.in_ok-first.ensures.kept c.file_of-3.result.now ∙ ap files c.file_of-3.ensures) c.in_err-third.field-0.0 c.in_err-third.ensures.unread)

pub returns-in_err-first-clause-reads : goal.returns-in_err-first-clause-reads
returns-in_err-first-clause-reads g c =
    let h = notes_before _ _ (c.file_of.result.now ∷ c.file_of-2.result.now ∷ []) (file_of c.args.plan.now ∷ []) c.in_err-first.ensures.reads in
    rw (c.file_of.ensures, c.file_of-2.ensures) at h

pub returns-in_err-third-clause-reads : goal.returns-in_err-third-clause-reads
returns-in_err-third-clause-reads g c =
    let h = notes_all _ _ _ (notes_more _ _ _ (c.file_of.result.now ∷ c.file_of-2.result.now ∷ []) (c.file_of-3.result.now ∷ []) c.in_ok-first.ensures.all c.in_err-third.ensures.noted) in
    rw (c.file_of.ensures, c.file_of-2.ensures, c.file_of-3.ensures) at h

pub returns-in_err-drawn-clause-reads : goal.returns-in_err-drawn-clause-reads
returns-in_err-drawn-clause-reads g c =
    let h = notes_all _ _ _ (notes_more _ _ _ (c.file_of.result.now ∷ c.file_of-2.result.now ∷ []) (c.file_of-3.result.now ∷ []) c.in_ok-first.ensures.all c.in_ok-third.ensures.noted) in
    rw (c.file_of.ensures, c.file_of-2.ensures, c.file_of-3.ensures) at h

pub returns-clause-reads : goal.returns-clause-reads
returns-clause-reads g c =
    let h = notes_all _ _ _ (notes_more _ _ _ (c.file_of.result.now ∷ c.file_of-2.result.now ∷ []) (c.file_of-3.result.now ∷ []) c.in_ok-first.ensures.all c.in_ok-third.ensures.noted) in
    rw (c.file_of.ensures, c.file_of-2.ensures, c.file_of-3.ensures) at h
