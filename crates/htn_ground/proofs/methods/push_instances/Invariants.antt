use Rattle.std.proofs.Common.{◌≡◌, ◌++◌, map, take}
use Rattle.htn_model.specs.Instances.{method_instance}
use Rattle.htn_ground.proofs.methods.push_instances.Given as goal

abbrev pub invariant-loop-choice : goal.invariant-loop-choice
invariant-loop-choice l = l.found.items ≡ l.initial.found.items ++ map (λ p. method_instance l.task l.number l.method p.1) (take l.choice-index l.choice-items)
