use Rattle.std.proofs.Common.{◌≡◌, map, take}
use Rattle.htn_model.specs.Instances.{initial_instance}
use Rattle.plan_lines.proofs.fitting.initials_to_fit.Given as goal

abbrev pub invariant-loop-choice : goal.invariant-loop-choice
invariant-loop-choice l = l.found.items ≡ map (initial_instance l.task) (take l.choice-index l.choice-items)
