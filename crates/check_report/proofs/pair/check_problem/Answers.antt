use Rattle.std.proofs.Common.{◌∙◌, ap, subst, sym}
use Rattle.std.specs.Result.{MatchResult}
use Rattle.hddl_text.specs.Grammar.{DerivesProblem}
use Rattle.hddl_text.specs.Spelling.{Spells}
use Rattle.check_report.specs.Report.{counts_in}
use Rattle.check_report.specs.Texts.{IsFaulty}
use Rattle.check_report.specs.Told.{named}
use Rattle.check_report.specs.Saying.{AreErrors}
use Rattle.check_report.proofs.Reports.{checks_second}
use Rattle.check_report.proofs.pair.check_problem.Goals as goal

pub returns-in_ok-checked-in-Err : goal.returns-in_ok-checked-in-Err
returns-in_ok-checked-in-Err c =
    let read = subst (λ r. MatchResult r (Spells DerivesProblem c.text.result.now) (IsFaulty DerivesProblem c.text.result.now)) c.in-Err.is c.in_ok-tree.ensures in
    let bad = subst (λ text. IsFaulty DerivesProblem text c.in-Err.fault) c.text.ensures read in
    let told = subst (AreErrors (named c.args.problem.now) c.in-Err.fault) (sym c.as_slice.ensures.value) c.in_ok-told-in-Err.ensures in
    checks_second c.args.domain.now c.args.problem.now c.args.options c.in_ok-checked-in-Err.checked c.as_slice.result.now c.as_slice-in-Err.result.now
    c.in_ok-checked-in-Err.ensures c.in-Err.fault c.args.domain_tree.now c.requires bad told (ap counts_in c.as_slice-in-Err.ensures.value ∙ c.in_ok-summary-in-Err.ensures)
