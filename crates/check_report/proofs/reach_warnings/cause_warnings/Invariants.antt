use Rattle.std.proofs.Common.{take}
use Rattle.std.specs.List.{AllZip}
use Rattle.check_report.specs.ReachWarnings.{IsNeverAppliedWarning, causes}
use Rattle.check_report.specs.Schemas.{places}
use Rattle.check_report.proofs.reach_warnings.cause_warnings.Given as goal

abbrev pub invariant-loop-unused : goal.invariant-loop-unused
invariant-loop-unused l = AllZip (IsNeverAppliedWarning l.texts) (causes (places l.schemas) (take l.unused-index l.found)) l.warnings.items
