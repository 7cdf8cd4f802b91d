use Rattle.never_applied.specs.declared.answer.Cause.TheVariants as cause
use Rattle.never_applied.specs.declared.answer.Unused.{Unused}
use Rattle.check_report.specs.ReachWarnings.{IsNeverAppliedWarning, cause_place, causes}
use Rattle.check_report.specs.Schemas.{places}
use Rattle.std.proofs.Common.{take}
use Rattle.check_report.proofs.Steps.{flat_step}
use Rattle.check_report.proofs.reach_warnings.cause_warnings.Goals as goal

-- some method or action
abbrev any_unused : Unused
any_unused = record { place = 0; cause = cause.Follows }

pub loop-unused-preserved : goal.loop-unused-preserved
loop-unused-preserved c =
    let names = places c.args.schemas in
    flat_step (IsNeverAppliedWarning c.args.texts.now) (cause_place names) c.args.found.now c.loop-unused.unused-index any_unused _ c.loop-unused-test.true
    (c.in_ok-add_cause.ensures (causes names (take c.loop-unused.unused-index c.args.found.now)) c.loop-unused.invariant)
