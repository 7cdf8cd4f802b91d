use Rattle.std.proofs.Common.{◌≡◌, take}
use Rattle.htn_model.specs.Instances.{assignments, domains_of}
use Rattle.htn_ground.proofs.literals.assignments.Given as goal

abbrev pub invariant-loop-type_number : goal.invariant-loop-type_number
invariant-loop-type_number l = l.choices.items ≡ assignments (domains_of l.task (take l.type_number-index l.types))
