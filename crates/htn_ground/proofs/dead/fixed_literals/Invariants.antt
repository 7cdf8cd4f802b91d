use Rattle.std.specs.List.{All}
use Rattle.htn_ground.specs.Fixed.{IsFixed}
use Rattle.htn_ground.proofs.dead.fixed_literals.Given as goal

abbrev pub invariant-loop-formula : goal.invariant-loop-formula
invariant-loop-formula l = All (IsFixed l.task l.precondition) l.literals.items
