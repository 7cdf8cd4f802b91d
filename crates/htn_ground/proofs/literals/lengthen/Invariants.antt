use Rattle.std.proofs.Common.{◌≡◌, take}
use Rattle.htn_ground.specs.Assigned.{lengthened}
use Rattle.htn_ground.proofs.literals.lengthen.Given as goal

abbrev pub invariant-loop-choice : goal.invariant-loop-choice
invariant-loop-choice l = l.longer.items ≡ lengthened (take l.choice-index l.choices) l.objects
