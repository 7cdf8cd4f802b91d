use Rattle.std.proofs.Common.{◌∙◌, [], ap, refl, subst, sym}
use Rattle.std.specs.Result.{MatchResult}
use Rattle.hddl_text.specs.Grammar.{DerivesProblem}
use Rattle.hddl_text.specs.Spelling.{Spells}
use Rattle.check_report.specs.Report.{counts_in}
use Rattle.check_report.specs.Texts.{IsFaulty}
use Rattle.check_report.specs.Told.{named}
use Rattle.check_report.specs.Saying.{AreErrors}
use Rattle.check_report.proofs.Reports.{checks_both, checks_first}
use Rattle.check_report.proofs.pair.refuse_domain.Goals as goal

pub returns-in-Ok : goal.returns-in-Ok
returns-in-Ok c =
    let read = subst (λ r. MatchResult r (Spells DerivesProblem c.text.result.now) (IsFaulty DerivesProblem c.text.result.now)) c.in-Ok.is c.in_ok-tree.ensures in
    let spelled = subst (λ text. Spells DerivesProblem text c.in-Ok.tree) c.text.ensures read in
    let told = subst (AreErrors (named c.args.domain.now) c.args.fault) (sym c.as_slice.ensures.value) c.in_ok-told.ensures in
    checks_first c.args.domain.now c.args.problem.now c.args.options c.in_ok-checked-in-Ok.checked c.as_slice.result.now c.as_slice-in-Ok.result.now
    c.in_ok-checked-in-Ok.ensures c.args.fault c.in-Ok.tree c.requires spelled told (ap counts_in c.as_slice-in-Ok.ensures.value ∙ c.in_ok-summary-in-Ok.ensures)

pub returns : goal.returns
returns c =
    let read = subst (λ r. MatchResult r (Spells DerivesProblem c.text.result.now) (IsFaulty DerivesProblem c.text.result.now)) c.in-Err.is c.in_ok-tree.ensures in
    let bad = subst (λ text. IsFaulty DerivesProblem text c.in-Err.fault) c.text.ensures read in
    checks_both c.args.domain.now c.args.problem.now c.args.options c.in_ok-checked-in-Err.checked c.as_slice-in-Err.result.now [] c.in_ok-checked-in-Err.ensures
    c.args.fault c.in-Err.fault c.requires bad c.in_ok-told.told.items c.in_ok-text_error-in-Err.field-0 c.in_ok-told.ensures c.in_ok-text_error-in-Err.ensures
    (c.as_slice-in-Err.ensures.value ∙ c.in_ok-push-in-Err.ensures.items) refl
