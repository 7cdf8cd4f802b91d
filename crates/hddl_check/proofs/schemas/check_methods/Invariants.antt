use Rattle.std.proofs.Common.{take}
use Rattle.std.specs.List.{flat_map}
use Rattle.hddl_uses.specs.Contexts.{Fails, PassedOver}
use Rattle.hddl_scope.specs.Findings.{AddsAny}
use Rattle.hddl_check.specs.TextParts.{method_parts}
use Rattle.hddl_check.proofs.schemas.check_methods.Given as goal

abbrev pub invariant-loop-method : goal.invariant-loop-method
invariant-loop-method l = AddsAny (PassedOver l.context) (Fails l.context) (flat_map method_parts (take l.method-index l.methods)) l.initial.found l.found
