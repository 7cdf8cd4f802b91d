use Rattle.std.proofs.Common.{◌≡◌, ◌++◌, take}
use Rattle.std.specs.List.{flat_map}
use Rattle.hddl_scope.specs.Scopes.{group_variables}
use Rattle.hddl_scope.proofs.in_force.Scope.push_groups.Given as goal

abbrev pub invariant-loop-group : goal.invariant-loop-group
invariant-loop-group l = l.self ≡ l.initial.self ++ flat_map (group_variables l.is_quantified) (take l.group-index l.groups)
