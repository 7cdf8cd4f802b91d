use Rattle.std.proofs.Common.{length}
use Rattle.task_machine.proofs.Blocks.{ArePrepared}
use Rattle.task_machine.proofs.tables.Tables.prepare_all.Given as goal

abbrev pub invariant-loop-rest : goal.invariant-loop-rest
invariant-loop-rest g l = ArePrepared l.task l.sizes l.prospects l.initial.self l.self l.initial.rest l.rest

abbrev pub decreases-loop-rest : goal.decreases-loop-rest
decreases-loop-rest g l = length l.rest
