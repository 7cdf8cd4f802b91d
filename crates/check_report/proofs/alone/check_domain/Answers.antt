use Rattle.std.proofs.Common.{[], refl, subst, sym}
use Rattle.std.specs.Result.{MatchResult}
use Rattle.hddl_text.specs.Grammar.{DerivesDomain}
use Rattle.hddl_text.specs.Spelling.{Spells}
use Rattle.check_report.specs.Texts.{IsFaulty}
use Rattle.check_report.specs.Told.{named}
use Rattle.check_report.specs.Saying.{AreErrors}
use Rattle.check_report.proofs.Reports.{checks_unread}
use Rattle.check_report.proofs.alone.check_domain.Goals as goal

pub returns-in_ok-checked-in-Err : goal.returns-in_ok-checked-in-Err
returns-in_ok-checked-in-Err c =
    let read = subst (λ r. MatchResult r (Spells DerivesDomain c.text.result.now) (IsFaulty DerivesDomain c.text.result.now)) c.in-Err.is c.in_ok-tree.ensures in
    let bad = subst (λ text. IsFaulty DerivesDomain text c.in-Err.fault) c.text.ensures read in
    let told = subst (AreErrors (named c.args.domain.now) c.in-Err.fault) (sym c.as_slice.ensures.value) c.in_ok-told-in-Err.ensures in
    checks_unread c.args.domain.now c.args.domain.now c.args.options c.in_ok-checked-in-Err.checked c.as_slice.result.now [] c.in_ok-checked-in-Err.ensures
    c.in-Err.fault bad told refl
