use Rattle.std.proofs.Common.{◌≡◌, take}
use Rattle.std.specs.List.{flat_map}
use Rattle.hddl_uses.specs.Contexts.{Fails, PassedInside}
use Rattle.hddl_scope.specs.Findings.{AddsAny}
use Rattle.hddl_uses.specs.Conditions.{condition_parts}
use Rattle.hddl_uses.proofs.conditions.check_conditions.Given as goal

abbrev pub invariant-loop-condition : goal.invariant-loop-condition
invariant-loop-condition l = record {
  found : AddsAny (PassedInside l.context l.initial.scope) (Fails l.context) (flat_map (condition_parts l.initial.scope) (take l.condition-index l.conditions)) l.initial.found l.found;
  kept : l.scope ≡ l.initial.scope;
}
