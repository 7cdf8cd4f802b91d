use Rattle.std.proofs.Common.{◌≡◌, ◌++◌, take}
use Rattle.std.specs.List.{flat_map}
use Rattle.hddl_warnings.specs.Used.{atoms_of, groups_of}
use Rattle.hddl_warnings.specs.Parts.{atoms, groups}
use Rattle.hddl_warnings.proofs.predicates.all_parts.Given as goal

abbrev pub invariant-loop-method : goal.invariant-loop-method
invariant-loop-method l = record {
  atoms : atoms l.parts ≡ flat_map (λ m. atoms_of m.precondition) (take l.method-index l.method-items);
  groups : groups l.parts ≡ flat_map (λ m. groups_of m.precondition) (take l.method-index l.method-items);
}

abbrev pub invariant-loop-action : goal.invariant-loop-action
invariant-loop-action l = record {
  atoms : atoms l.parts ≡ atoms l.initial.parts ++ flat_map (λ a. atoms_of a.precondition) (take l.action-index l.action-items);
  groups : groups l.parts ≡ groups l.initial.parts ++ flat_map (λ a. groups_of a.precondition) (take l.action-index l.action-items);
}
