use Rattle.std.proofs.Common.{◌≡◌, ◌++◌, take}
use Rattle.std.specs.List.{flat_map}
use Rattle.diagnostics.specs.Near.{names_of}
use Rattle.pair_messages.specs.Bindings.{variables_in}
use Rattle.pair_messages.specs.Stands.{section_parameters}
use Rattle.pair_messages.proofs.variables.names_in_force.Given as goal

abbrev pub invariant-loop-groups : goal.invariant-loop-groups
invariant-loop-groups l = names_of l.names.items ≡ variables_in (section_parameters l.scope.section) ++ flat_map (λ g. variables_in g.now) (take l.groups-index l.scope.quantified.items)
