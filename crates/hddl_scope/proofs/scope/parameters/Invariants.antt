use Rattle.std.proofs.Common.{◌≡◌, take, false}
use Rattle.std.specs.List.{flat_map}
use Rattle.hddl_scope.specs.Scopes.{group_variables}
use Rattle.hddl_scope.proofs.scope.parameters.Given as goal

abbrev pub invariant-loop-group : goal.invariant-loop-group
invariant-loop-group l = l.parameters.items ≡ flat_map (group_variables false) (take l.group-index l.groups)
