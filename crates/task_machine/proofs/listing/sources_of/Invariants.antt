use Rattle.std.proofs.Common.{◌≡◌, map, take}
use Rattle.task_machine.specs.Tables.{source_of}
use Rattle.task_machine.proofs.listing.sources_of.Given as goal

-- where the instances so far come from
abbrev pub invariant-loop-instance : goal.invariant-loop-instance
invariant-loop-instance l = l.sources.items ≡ map source_of (take l.instance-index l.instances)
