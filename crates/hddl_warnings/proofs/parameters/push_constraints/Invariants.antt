use Rattle.std.proofs.Common.{◌≡◌, ◌++◌, map, take}
use Rattle.std.specs.List.{flat_map}
use Rattle.hddl_warnings.specs.Used.{sides_of}
use Rattle.hddl_warnings.proofs.parameters.push_constraints.Given as goal

abbrev pub invariant-loop-constraint : goal.invariant-loop-constraint
invariant-loop-constraint l = map (λ x. x.now) l.sides.items ≡ map (λ x. x.now) l.initial.sides.items ++ flat_map sides_of (take l.constraint-index l.constraints)
