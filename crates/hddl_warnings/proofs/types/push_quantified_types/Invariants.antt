use Rattle.std.proofs.Common.{◌≡◌, ◌++◌, map, take}
use Rattle.hddl_warnings.specs.Used.{variable_types}
use Rattle.hddl_warnings.proofs.types.push_quantified_types.Given as goal

abbrev pub invariant-loop-group : goal.invariant-loop-group
invariant-loop-group l = map (λ x. x.now) l.names.items ≡ map (λ x. x.now) l.initial.names.items ++ variable_types (map (λ x. x.now) (take l.group-index l.groups))
