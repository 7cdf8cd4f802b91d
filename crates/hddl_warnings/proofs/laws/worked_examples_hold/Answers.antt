use Rattle.hddl_warnings.proofs.Examples.{examples}
use Rattle.hddl_warnings.proofs.laws.worked_examples_hold.Goals as goal

pub returns : goal.returns
returns c = examples
