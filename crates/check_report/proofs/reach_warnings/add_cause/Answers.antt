use Rattle.check_report.specs.ReachWarnings.{IsNeverAppliedWarning}
use Rattle.check_report.specs.Schemas.{places}
use Rattle.check_report.proofs.Steps.{silent_cause, told_cause}
use Rattle.std.proofs.Common.{◌∙◌, sym}
use Rattle.check_report.proofs.reach_warnings.add_cause.Goals as goal

pub returns-then-not-is_told : goal.returns-then-not-is_told
returns-then-not-is_told c before all =
    silent_cause (IsNeverAppliedWarning c.args.texts.now) (places c.args.schemas) before c.args.unused _ (sym c.is_cause-is_told.ensures ∙ c.if-not-is_told.true) all

pub returns : goal.returns
returns c before all =
    told_cause (IsNeverAppliedWarning c.args.texts.now) (places c.args.schemas) before c.args.unused _ c.at-schema.result c.at-schema.ensures
    (sym c.is_cause-is_told.ensures ∙ c.if-not-is_told.false) (c.in_ok-add_schema.ensures before all)
