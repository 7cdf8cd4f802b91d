use Rattle.std.proofs.Common.{◌≡◌, take}
use Rattle.htn_model.specs.Instances.{method_instance}
use Rattle.htn_ground.specs.Distinct.{gathered, is_live}
use Rattle.htn_ground.proofs.distinct_methods.insert_methods.Given as goal

abbrev pub invariant-loop-choice : goal.invariant-loop-choice
invariant-loop-choice l = l.found.keys ≡ gathered (is_live l.task) (method_instance l.task l.number l.method) l.initial.found.keys (take l.choice-index l.values)
