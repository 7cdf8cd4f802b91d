use Rattle.std.proofs.Common.{◌≡◌, ◌++◌, map, take}
use Rattle.hddl_warnings.specs.Parts.{AddsEach}
use Rattle.hddl_warnings.proofs.parts.+push_condition.Given as goal

abbrev pub decreases-push_condition : goal.decreases-push_condition
decreases-push_condition l = goal.size-push_condition l

abbrev pub invariant-loop-group : goal.invariant-loop-group
invariant-loop-group l = record {
  atoms : l.parts.atoms.items ≡ l.initial.parts.atoms.items;
  sides : l.parts.sides.items ≡ l.initial.parts.sides.items;
  groups : map (λ x. x.now) l.parts.groups.items ≡ map (λ x. x.now) l.initial.parts.groups.items ++ take l.group-index l.group-items;
}

abbrev pub invariant-loop-part : goal.invariant-loop-part
invariant-loop-part l = AddsEach l.initial.parts l.parts (take l.part-index l.part-items)
