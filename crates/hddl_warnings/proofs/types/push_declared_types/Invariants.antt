use Rattle.std.proofs.Common.{◌≡◌, ◌++◌, map, take}
use Rattle.std.specs.List.{flat_map}
use Rattle.hddl_warnings.specs.Used.{variable_types}
use Rattle.hddl_warnings.proofs.types.push_declared_types.Given as goal

abbrev pub invariant-loop-predicate : goal.invariant-loop-predicate
invariant-loop-predicate l = map (λ x. x.now) l.names.items ≡ map (λ x. x.now) l.initial.names.items ++ flat_map (λ x. variable_types x.parameters) (take l.predicate-index l.predicate-items)

abbrev pub invariant-loop-task : goal.invariant-loop-task
invariant-loop-task l = map (λ x. x.now) l.names.items ≡ map (λ x. x.now) l.initial.names.items ++ flat_map (λ x. variable_types x.parameters) (take l.task-index l.task-items)
