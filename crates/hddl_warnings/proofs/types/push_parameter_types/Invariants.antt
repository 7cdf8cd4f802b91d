use Rattle.std.proofs.Common.{◌≡◌, ◌++◌, map, take}
use Rattle.std.specs.List.{flat_map}
use Rattle.hddl_warnings.specs.Used.{variable_types}
use Rattle.hddl_warnings.proofs.types.push_parameter_types.Given as goal

abbrev pub invariant-loop-method : goal.invariant-loop-method
invariant-loop-method l = map (λ x. x.now) l.names.items ≡ map (λ x. x.now) l.initial.names.items ++ flat_map (λ m. variable_types m.parameters) (take l.method-index l.method-items)

abbrev pub invariant-loop-action : goal.invariant-loop-action
invariant-loop-action l = map (λ x. x.now) l.names.items ≡ map (λ x. x.now) l.initial.names.items ++ flat_map (λ a. variable_types a.parameters) (take l.action-index l.action-items)
