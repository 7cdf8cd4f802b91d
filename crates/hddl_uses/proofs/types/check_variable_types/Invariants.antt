use Rattle.std.proofs.Common.{take}
use Rattle.std.specs.List.{flat_map}
use Rattle.hddl_uses.specs.Contexts.{Fails, PassedOver}
use Rattle.hddl_scope.specs.Findings.{AddsAny}
use Rattle.hddl_uses.specs.Parts.{variable_group_parts}
use Rattle.hddl_uses.proofs.types.check_variable_types.Given as goal

abbrev pub invariant-loop-group : goal.invariant-loop-group
invariant-loop-group l = AddsAny (PassedOver l.context) (Fails l.context) (flat_map variable_group_parts (take l.group-index l.groups)) l.initial.found l.found
