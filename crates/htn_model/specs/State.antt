-- States: finite sets of ground atoms. An atom that is not in the set is false.
use Rattle.std.specs.Prelude.{Bool, not, List, [], ◌∷◌}
use Rattle.std.specs.Coded.{Coded}
use base.Stored.{coded_unit}
use Rattle.std.specs.FinMap.{FinMap, code, contains_key, from_entries, insert, keys, retain_keys}
use Rattle.std.specs.Cmp.Lexicographic.{pointwise}
use Rattle.std.specs.Hash as fed
use Rattle.std.specs.Hash.{HashWrites}
use Rattle.htn_model.specs.Atom.{Atom, atom_code, atom_cmp, atom_eq, atom_hash}

-- a finite map with nothing beside each atom
abbrev pub State : Type 0
State = FinMap atom_cmp (Unit {0})

-- states as values: their atoms in turn
abbrev pub state_code : Coded State
state_code = code atom_code coded_unit

-- each atom with nothing beside it
abbrev pub marked : List Atom → List (Atom × Unit {0})
marked [] = []
marked (a ∷ atoms) = (a, tt) ∷ marked atoms

-- the set of these atoms
abbrev pub set_of : List Atom → State
set_of atoms = from_entries (marked atoms)

-- whether an atom is true
abbrev pub contains : State → Atom → Bool
contains s a = contains_key s a

-- the true atoms, in their order
abbrev pub atoms_of : State → List Atom
atoms_of s = keys s

-- the atoms of s that are not in t
abbrev pub difference : State → State → State
difference s t = retain_keys s (λ a. not (contains t a))

-- the set with these atoms too
abbrev pub with_atoms : State → List Atom → State
with_atoms s [] = s
with_atoms s (a ∷ atoms) = insert (with_atoms s atoms) a tt

-- the atoms of s and those of t
abbrev pub union : State → State → State
union s t = with_atoms s (atoms_of t)

-- whether two sets have the same atoms
abbrev pub state_eq : State → State → Bool
state_eq s t = pointwise atom_eq (atoms_of s) (atoms_of t)

-- the writes by which a state feeds a hasher: its atoms in their order
abbrev pub state_hash : State → HashWrites
state_hash s = fed.slice atom_hash (atoms_of s)
