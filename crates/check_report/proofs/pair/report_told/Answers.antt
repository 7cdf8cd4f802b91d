use Rattle.std.proofs.Common.{◌∙◌, ap, subst}
use Rattle.check_report.specs.Report.{IsReport, counts_in}
use Rattle.check_report.proofs.pair.report_told.Goals as goal

pub returns : goal.returns
returns c = record {
  summary = c.as_slice.result.now;
  counted = ap counts_in c.as_slice.ensures.value ∙ c.in_ok-summary.ensures;
  report = subst (λ r. IsReport c.args.options c.args.told.now c.as_slice.result.now r c.in_ok-checked.checked) c.reached.ensures c.in_ok-checked.ensures;
}
