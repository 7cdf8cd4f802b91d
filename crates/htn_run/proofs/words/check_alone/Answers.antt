use Rattle.std.proofs.Common.{None, [], ◌∷◌}
use Rattle.std.proofs.lemmas.Result.{err_from_is_err_and}
use Rattle.htn_run.proofs.Reporting.{given_of, stops_by_report}
use Rattle.htn_run.proofs.words.check_alone.Goals as goal

pub returns-in_err-finding-clause-stopped : goal.returns-in_err-finding-clause-stopped
returns-in_err-finding-clause-stopped g c =
    let p = err_from_is_err_and c.from_residual-in_err-finding.result c.from_residual-in_err-finding.ensures.1 in
    let d = given_of (g.S.Source.files c.args.files.now) c.args.domain.now _ _ _ c.file_of.ensures c.as_slice.ensures.value c.in_ok-text.ensures.bytes in
    rw (p.1, p.2)
    (stops_by_report g.O.Out.contents g.O.Out.has_failed (g.S.Source.files c.args.files.now) c.args.domain.now None c.args.options
    c.args.out.now c.run_check.new.out c.in_err-finding.field-0.0 c.in_err-finding.ensures.unwritten
    (λ output. let h = c.in_err-finding.ensures.cut_short output in ((_, d, h.0), h.1)))

pub returns-clause-answered : goal.returns-clause-answered
returns-clause-answered g c =
    let d = given_of (g.S.Source.files c.args.files.now) c.args.domain.now _ _ _ c.file_of.ensures c.as_slice.ensures.value c.in_ok-text.ensures.bytes in
    let h = c.in_ok-finding.ensures.report in
    (h.0, (_, d, h.1), h.2)
