use Rattle.std.proofs.Common.{◌≡◌, ◌++◌, map, take}
use Rattle.htn_model.specs.Instances.{method_instance}
use Rattle.plan_lines.proofs.fitting.push_instances.Given as goal

abbrev pub invariant-loop-choice : goal.invariant-loop-choice
invariant-loop-choice l = l.found.items ≡ l.initial.found.items ++ map (method_instance l.task l.number l.method) (take l.choice-index l.values)
