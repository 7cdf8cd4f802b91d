use Rattle.std.proofs.Common.{subst}
use Rattle.std.specs.List.{AllZip}
use Rattle.check_report.specs.Saying.{TellsPair}
use Rattle.check_report.proofs.tell.tree_errors.Goals as goal

pub returns : goal.returns
returns c = subst (λ t. AllZip (TellsPair t) c.args.faults.now c.in_ok-errors.errors.items) c.in_ok-index.ensures c.in_ok-errors.ensures
