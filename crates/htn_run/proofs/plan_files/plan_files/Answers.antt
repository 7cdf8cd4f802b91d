use Rattle.std.proofs.Common.{inl, inr, refl}
use Rattle.std.proofs.lemmas.Result.{err_from_is_err_and}
use Rattle.htn_command.specs.declared.request.Request.TheVariants.{Plan}
use Rattle.htn_run.proofs.Stopping.{given, stops_by}
use Rattle.htn_run.proofs.plan_files.plan_files.Goals as goal

pub returns-in_err-watched-clause-stopped : goal.returns-in_err-watched-clause-stopped
returns-in_err-watched-clause-stopped g c =
    let p = err_from_is_err_and c.from_residual-in_err-watched.result c.from_residual-in_err-watched.ensures.1 in
    let d = given _ _ _ c.as_slice.ensures.value c.in_ok-domain.ensures.bytes.0 in
    let q = given _ _ _ c.as_slice-2.ensures.value c.in_ok-domain.ensures.bytes.1 in
    rw (p.1, p.2)
    (stops_by g.O.Out.contents g.O.Out.has_failed (g.S.Source.files c.args.files.now) (Plan c.args.domain c.args.problem c.args.bounds c.args.watching.seconds c.args.watching.has_progress)
    c.args.out.now c.plan_texts.new.out c.in_err-watched.field-0.0 tt
    (λ other. let h = c.in_err-watched.ensures.refused other in ((c.as_slice.result.now, c.as_slice-2.result.now, d, q, (h.0, c.in_err-watched.ensures.named)), h.1))
    (λ output. let h = c.in_err-watched.ensures.cut_short output in ((c.as_slice.result.now, c.as_slice-2.result.now, d, q, h.0), h.1)))

pub returns-in_err-watched-clause-shows : goal.returns-in_err-watched-clause-shows
returns-in_err-watched-clause-shows g c =
    let d = given _ _ _ c.as_slice.ensures.value c.in_ok-domain.ensures.bytes.0 in
    let q = given _ _ _ c.as_slice-2.ensures.value c.in_ok-domain.ensures.bytes.1 in
    inr (c.as_slice.result.now, c.as_slice-2.result.now, d, q, c.in_err-watched.ensures.shows)

pub returns-clause-shows : goal.returns-clause-shows
returns-clause-shows g c =
    let d = given _ _ _ c.as_slice.ensures.value c.in_ok-domain.ensures.bytes.0 in
    let q = given _ _ _ c.as_slice-2.ensures.value c.in_ok-domain.ensures.bytes.1 in
    inr (c.as_slice.result.now, c.as_slice-2.result.now, d, q, c.in_ok-watched.ensures.shows)

pub returns-in_err-domain-clause-shows : goal.returns-in_err-domain-clause-shows
returns-in_err-domain-clause-shows g c = inl refl

pub returns-clause-answered : goal.returns-clause-answered
returns-clause-answered g c =
    let d = given _ _ _ c.as_slice.ensures.value c.in_ok-domain.ensures.bytes.0 in
    let q = given _ _ _ c.as_slice-2.ensures.value c.in_ok-domain.ensures.bytes.1 in
    let h = c.in_ok-watched.ensures.answer in
    (h.0, (c.as_slice.result.now, c.as_slice-2.result.now, d, q, h.1), h.2)
