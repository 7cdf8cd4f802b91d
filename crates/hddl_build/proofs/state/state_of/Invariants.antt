use Rattle.std.proofs.Common.{◌≡◌, [], map, take}
use Rattle.htn_model.specs.Instances.{ground_atom}
use Rattle.hddl_meaning.specs.Building.{atom_of}
use Rattle.hddl_build.proofs.state.state_of.Given as goal

abbrev pub invariant-loop-atom : goal.invariant-loop-atom
invariant-loop-atom l = l.atoms.items ≡ map (λ a. ground_atom [] (atom_of l.vocabulary [] a)) (take l.atom-index l.init)
