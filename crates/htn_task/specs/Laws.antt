-- The laws of the order and the hash of atoms and states.
use Rattle.std.specs.Prelude.{◌≡◌, true}
use Rattle.std.specs.Ordering.{as_partial_cmp, is_eq}
use Rattle.std.specs.Cmp.{Equal-is, IsPartialOrder, both_ways, po, tied_itself}
use Rattle.std.specs.Hash.{Alike, items_Alike, on_Alike, same_Alike}
use Rattle.std.proofs.Common.{ap, subst, ◌∙◌}
use Rattle.htn_model.specs.Atom.{Atom, atom_cmp, atom_eq, atom_hash}
use Rattle.htn_model.specs.AtomOrder.{atom_cmp-same, atom_cmp-total, atom_eq-decides}
use Rattle.htn_model.specs.State.{atoms_of, state_eq, state_hash}

-- two atoms are equal exactly where neither comes before the other
pub atom_cmp-matches : (x y : Atom) → atom_eq x y ≡ is_eq (atom_cmp x y)
atom_cmp-matches x y =
    both_ways (atom_eq x y) (is_eq (atom_cmp x y))
    (λ e. subst (λ (z : Atom). is_eq (atom_cmp x z) ≡ true) ((atom_eq-decides x y).0 e) (ap is_eq (tied_itself atom_cmp-total x)))
    (λ e. (atom_eq-decides x y).1 (atom_cmp-same x y ((Equal-is (atom_cmp x y)).0 e)))

-- the order of atoms is one in the sense of `PartialOrd`
pub atom_cmp-partial : IsPartialOrder atom_eq (as_partial_cmp atom_cmp)
atom_cmp-partial = po atom_cmp-total atom_cmp-matches

-- equal atoms feed a hasher the same
pub atom_hash-Alike : Alike atom_eq atom_hash
atom_hash-Alike = same_Alike atom_hash atom_eq-decides

-- equal states feed a hasher the same
pub state_hash-Alike : Alike state_eq state_hash
state_hash-Alike = on_Alike atoms_of (items_Alike atom_hash-Alike)
