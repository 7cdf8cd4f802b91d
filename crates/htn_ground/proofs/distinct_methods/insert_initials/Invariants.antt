use Rattle.std.proofs.Common.{◌≡◌, take}
use Rattle.htn_model.specs.Instances.{initial_instance}
use Rattle.htn_ground.specs.Distinct.{any_network, gathered}
use Rattle.htn_ground.proofs.distinct_methods.insert_initials.Given as goal

abbrev pub invariant-loop-choice : goal.invariant-loop-choice
invariant-loop-choice l = l.found.keys ≡ gathered any_network (initial_instance l.task) l.initial.found.keys (take l.choice-index l.values)
