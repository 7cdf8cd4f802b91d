use Rattle.std.proofs.Common.{◌≡◌, take}
use Rattle.std.specs.List.{flat_map}
use Rattle.hddl_uses.specs.Contexts.{Fails, PassedInside}
use Rattle.hddl_scope.specs.Findings.{AddsAny}
use Rattle.hddl_uses.specs.Conditions.{condition_parts}
use Rattle.hddl_uses.proofs.conditions.+check_condition.Given as goal

abbrev pub decreases-check_condition : goal.decreases-check_condition
decreases-check_condition l = goal.size-check_condition l

abbrev pub invariant-loop-part : goal.invariant-loop-part
invariant-loop-part l = record {
  found : AddsAny (PassedInside l.context l.initial.scope) (Fails l.context) (flat_map (condition_parts l.initial.scope) (take l.part-index l.part-items)) l.initial.found l.found;
  kept : l.scope ≡ l.initial.scope;
}
