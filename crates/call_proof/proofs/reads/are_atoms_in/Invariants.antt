use Rattle.std.proofs.Common.{◌≡◌, drop}
use Rattle.std.specs.List.{list_all}
use Rattle.call_proof.specs.Masks.{frame_of}
use Rattle.call_proof.proofs.reads.are_atoms_in.Given as goal

-- the atoms that are left decide
abbrev pub invariant-loop-atom : goal.invariant-loop-atom
invariant-loop-atom l =
    list_all (frame_of l.atoms l.mask) (drop l.atom-index l.list) ≡ list_all (frame_of l.atoms l.mask) l.list
