use Rattle.std.proofs.Common.{◌≡◌, map, take}
use Rattle.htn_model.specs.Instances.{initial_instance}
use Rattle.htn_ground.proofs.methods.initials.Given as goal

abbrev pub invariant-loop-choice : goal.invariant-loop-choice
invariant-loop-choice l = l.found.items ≡ map (λ p. initial_instance l.task p.1) (take l.choice-index l.choice-items)
