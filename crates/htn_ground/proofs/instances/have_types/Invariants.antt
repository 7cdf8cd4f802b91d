use Rattle.std.proofs.Common.{◌≡◌, drop}
use Rattle.htn_model.specs.Instances.{have_types}
use Rattle.htn_ground.proofs.instances.have_types.Given as goal

abbrev pub invariant-loop-place : goal.invariant-loop-place
invariant-loop-place l = have_types l.task (drop l.place l.types) (drop l.place l.values) ≡ have_types l.task l.types l.values
