use Rattle.network_table.proofs.Remembering.{AreFirst}
use Rattle.network_table.proofs.table.NetworkTable.expand_each.Given as goal

abbrev pub invariant-loop-job : goal.invariant-loop-job
invariant-loop-job l = AreFirst l.initial.self l.self l.jobs l.job-index
