use Rattle.std.proofs.Common.{◌≡◌, ◌++◌, take}
use Rattle.std.specs.List.{flat_map}
use Rattle.htn_model.specs.Instances.{atom_places}
use Rattle.htn_ground.specs.Places.{among, places_of}
use Rattle.htn_ground.proofs.conditions.push_all_atom_places.Given as goal

abbrev pub invariant-loop-atom : goal.invariant-loop-atom
invariant-loop-atom l = places_of l.places.items ≡ places_of l.initial.places.items ++ among l.count (flat_map (atom_places l.task) (take l.atom-index l.atoms))
