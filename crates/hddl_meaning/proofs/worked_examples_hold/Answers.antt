use Rattle.hddl_meaning.proofs.Examples.{faults, meanings}
use Rattle.hddl_meaning.proofs.Packing.{packing_is_a_task}
use Rattle.hddl_meaning.proofs.Reasons.{reasons}
use Rattle.hddl_meaning.proofs.worked_examples_hold.Goals as goal

pub returns : goal.returns
returns c = record { faults = faults; meanings = meanings; packing = packing_is_a_task; reasons = reasons }
