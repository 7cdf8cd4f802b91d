use Rattle.std.proofs.Common.{◌∙◌, ap, subst, sym}
use Rattle.check_report.specs.Report.{counts_in}
use Rattle.check_report.specs.Texts.{AreOwnFaults, AreOwnWarnings}
use Rattle.check_report.specs.Saying.{TellsTrees}
use Rattle.check_report.proofs.Reports.{checks_alone}
use Rattle.check_report.proofs.alone.check_tree.Goals as goal

pub returns : goal.returns
returns c =
    let told =
    subst
    (TellsTrees c.args.texts.now (AreOwnFaults c.args.texts.now.domain.now.lines c.args.texts.now.domain_tree.now c.args.texts.now.problem_tree.now)
    (AreOwnWarnings c.args.texts.now.domain_tree.now))
    (sym c.as_slice.ensures.value) c.in_ok-told.ensures in
    checks_alone c.args.texts.now c.args.options c.in_ok-checked.checked c.as_slice.result.now c.as_slice-2.result.now c.requires.domain_spelled
    c.requires.alone c.requires.problem_spelled told (ap counts_in c.as_slice-2.ensures.value ∙ c.in_ok-summary.ensures) c.in_ok-checked.ensures
