-- States are sets: which atoms are true after each operation, and that states with the same true atoms are equal.
use Rattle.std.specs.Prelude.{◌≡◌, ◌↔◌, true, not, ◌&&◌, ◌||◌, List}
use Rattle.std.specs.List.{Contains}
use Rattle.std.specs.List.Sorted.{IsStrictlySortedBy}
use Rattle.htn_model.specs.Atom.{Atom, atom_cmp}
use Rattle.htn_model.specs.State.{State, contains, set_of, atoms_of, union, difference}
use Rattle.htn_model.specs.Literal.{Action, after}

-- which atoms are true in what the operations make, and that states with the same true atoms are equal
pub record StatesAreSets : Type 0 where
  pub made : (atoms : List Atom) (a : Atom) → (contains (set_of atoms) a ≡ true) ↔ Contains atoms a
  pub united : (s t : State) (a : Atom) → contains (union s t) a ≡ (contains s a || contains t a)
  pub parted : (s t : State) (a : Atom) → contains (difference s t) a ≡ (contains s a && not (contains t a))
  -- what is added, and of what was true what isn't deleted
  pub changed : (s : State) (effects : Action) (a : Atom) → contains (after s effects) a ≡ (contains effects.adds a || (contains s a && not (contains effects.deletes a)))
  pub same : (s t : State) → ((a : Atom) → contains s a ≡ contains t a) → s ≡ t
  pub listed : (s : State) → set_of (atoms_of s) ≡ s
  pub ascending : (s : State) → IsStrictlySortedBy atom_cmp (atoms_of s)
  pub in_order : (atoms : List Atom) → IsStrictlySortedBy atom_cmp atoms → atoms_of (set_of atoms) ≡ atoms
