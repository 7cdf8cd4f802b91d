use Rattle.std.proofs.Common.{subst}
use Rattle.std.specs.List.{AllZip}
use Rattle.check_report.specs.Saying.{WarnsPair}
use Rattle.check_report.proofs.warnings.warn.Goals as goal

pub returns : goal.returns
returns c = record {
  warnings = c.in_ok-warnings.warnings.items;
  are = record { all = c.in_ok-warnings.ensures.exactly; order = c.in_ok-warnings.ensures.ordered };
  tell = subst (λ ws. AllZip (WarnsPair c.args.texts.now) ws c.in_ok-told.told.items) c.as_slice.ensures.value c.in_ok-told.ensures;
}
