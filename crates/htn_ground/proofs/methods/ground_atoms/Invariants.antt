use Rattle.std.proofs.Common.{◌≡◌, map, take}
use Rattle.htn_model.specs.Instances.{ground_atom}
use Rattle.htn_ground.proofs.methods.ground_atoms.Given as goal

abbrev pub invariant-loop-atom : goal.invariant-loop-atom
invariant-loop-atom l = l.found.items ≡ map (ground_atom l.values) (take l.atom-index l.atoms)
