use Rattle.std.proofs.Common.{Some}
use Rattle.std.proofs.lemmas.Result.{err_from_is_err_and}
use Rattle.htn_run.proofs.Reporting.{given_of, stops_by_report}
use Rattle.htn_run.proofs.words.check_both.Goals as goal

pub returns-in_err-finding-clause-stopped : goal.returns-in_err-finding-clause-stopped
returns-in_err-finding-clause-stopped g c =
    let p = err_from_is_err_and c.from_residual-in_err-finding.result c.from_residual-in_err-finding.ensures.1 in
    let files = g.S.Source.files c.args.files.now in
    let d = given_of files c.args.domain.now _ _ _ c.file_of.ensures c.as_slice.ensures.value c.in_ok-first.ensures.bytes.0 in
    let q = given_of files c.args.problem.now _ _ _ c.file_of-2.ensures c.as_slice-2.ensures.value c.in_ok-first.ensures.bytes.1 in
    rw (p.1, p.2)
    (stops_by_report g.O.Out.contents g.O.Out.has_failed files c.args.domain.now (Some c.args.problem.now) c.args.options
    c.args.out.now c.run_check.new.out c.in_err-finding.field-0.0 c.in_err-finding.ensures.unwritten
    (λ output. let h = c.in_err-finding.ensures.cut_short output in ((_, _, d, q, h.0), h.1)))

pub returns-clause-answered : goal.returns-clause-answered
returns-clause-answered g c =
    let files = g.S.Source.files c.args.files.now in
    let d = given_of files c.args.domain.now _ _ _ c.file_of.ensures c.as_slice.ensures.value c.in_ok-first.ensures.bytes.0 in
    let q = given_of files c.args.problem.now _ _ _ c.file_of-2.ensures c.as_slice-2.ensures.value c.in_ok-first.ensures.bytes.1 in
    let h = c.in_ok-finding.ensures.report in
    (h.0, (_, _, d, q, h.1), h.2)
