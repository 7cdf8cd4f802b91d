use Rattle.std.proofs.Common.{◌≡◌, ◌++◌, map, take}
use Rattle.hddl_warnings.specs.Used.{name_types}
use Rattle.hddl_warnings.proofs.types.push_name_types.Given as goal

abbrev pub invariant-loop-group : goal.invariant-loop-group
invariant-loop-group l = map (λ x. x.now) l.names.items ≡ map (λ x. x.now) l.initial.names.items ++ name_types (take l.group-index l.groups)
