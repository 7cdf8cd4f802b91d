use Rattle.std.proofs.Common.{◌≡◌, map, take}
use Rattle.task_machine.specs.Blocks.{job_view, listed_job}
use Rattle.task_machine.proofs.prepare_all.jobs_of.Given as goal

-- the jobs of the networks so far
abbrev pub invariant-loop-one : goal.invariant-loop-one
invariant-loop-one l = map job_view l.jobs.items ≡ map (listed_job l.instances) (take l.one-index l.block)
