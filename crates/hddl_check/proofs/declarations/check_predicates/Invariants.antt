use Rattle.std.proofs.Common.{take}
use Rattle.std.specs.List.{flat_map}
use Rattle.hddl_uses.specs.Contexts.{Fails, PassedOver}
use Rattle.hddl_scope.specs.Findings.{AddsAny}
use Rattle.hddl_check.specs.TextParts.{predicate_parts}
use Rattle.hddl_check.proofs.declarations.check_predicates.Given as goal

abbrev pub invariant-loop-predicate : goal.invariant-loop-predicate
invariant-loop-predicate l = AddsAny (PassedOver l.context) (Fails l.context) (flat_map predicate_parts (take l.predicate-index l.predicates)) l.initial.found l.found
