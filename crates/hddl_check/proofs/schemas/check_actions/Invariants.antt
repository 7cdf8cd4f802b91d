use Rattle.std.proofs.Common.{take}
use Rattle.std.specs.List.{flat_map}
use Rattle.hddl_uses.specs.Contexts.{Fails, PassedOver}
use Rattle.hddl_scope.specs.Findings.{AddsAny}
use Rattle.hddl_check.specs.TextParts.{action_parts}
use Rattle.hddl_check.proofs.schemas.check_actions.Given as goal

abbrev pub invariant-loop-action : goal.invariant-loop-action
invariant-loop-action l = AddsAny (PassedOver l.context) (Fails l.context) (flat_map action_parts (take l.action-index l.actions)) l.initial.found l.found
