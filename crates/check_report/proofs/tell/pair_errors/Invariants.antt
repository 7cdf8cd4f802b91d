use Rattle.std.proofs.Common.{take}
use Rattle.std.specs.List.{AllZip}
use Rattle.check_report.specs.Saying.{TellsPair}
use Rattle.check_report.proofs.tell.pair_errors.Given as goal

abbrev pub invariant-loop-fault : goal.invariant-loop-fault
invariant-loop-fault l = AllZip (TellsPair l.index.texts.now) (take l.fault-index l.faults) l.errors.items
