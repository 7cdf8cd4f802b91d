use Rattle.std.proofs.Common.{rules}
use Rattle.plan_report.proofs.report.explain_fault.Goals as goal

pub returns : goal.returns
returns c = (c.in_ok-error.error, c.in_ok-error.ensures, search rules)
