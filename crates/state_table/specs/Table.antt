-- Atoms by numbers, and the states that sets of numbers stand for.
use Rattle.std.specs.Prelude.{◌≡◌, ℕ, ◌+◌, ◌<◌, Bool, true, false, cond, List, [], ◌∷◌, ◌++◌, Some, length, get_or, slice_get, refl}
use Rattle.std.specs.Coded.{Coded, code_by, coded×, coded_bool, coded_list}
use Rattle.htn_model.specs.Atom.{Atom, atom_code}
use Rattle.htn_model.specs.State.{State, state_code, contains, set_of, union}
use Rattle.state_table.specs.Bits.{has, IsBits}
use Rattle.state_table.specs.Numberings.{IsNumbering}

-- which predicates are fluent, the static atoms that are true, and the fluent atoms by number
pub record Table : Type 0 where
  pub fluents : List Bool
  pub statics : State
  pub atoms : List Atom

-- tables as values: their three parts in turn
abbrev pub table_code : Coded Table
table_code =
    code_by (List Bool × (State × List Atom))
    (coded× (coded_list coded_bool) (coded× state_code (coded_list atom_code))) (λ t. (t.fluents, (t.statics, t.atoms)))
    (λ p. record { fluents = p.0; statics = p.1.0; atoms = p.1.1 }) (λ _. refl)

-- whether an effect names a predicate
abbrev pub is_changed : List Bool → ℕ → Bool
is_changed fluents predicate = get_or fluents predicate false

-- whether an atom's predicate is fluent: an effect names it
abbrev pub is_fluent_by : List Bool → Atom → Bool
is_fluent_by fluents a = is_changed fluents a.predicate

-- whether an effect names an atom's predicate, by the table
abbrev pub is_fluent : Table → Atom → Bool
is_fluent t = is_fluent_by t.fluents

-- each numbered atom is fluent and has one number, and no fluent atom is among the static ones
pub record IsTable (t : Table) : Type 0 where
  pub numbering : IsNumbering t.atoms
  pub fluent : (i : ℕ) (a : Atom) → slice_get t.atoms i ≡ Some a → is_fluent t a ≡ true
  pub static : (a : Atom) → contains t.statics a ≡ true → is_fluent t a ≡ false

-- the table with more atoms numbered
pub record IsLater (t later : Table) : Type 0 where
  pub fluents : later.fluents ≡ t.fluents
  pub statics : later.statics ≡ t.statics
  pub more : List Atom
  pub atoms : later.atoms ≡ t.atoms ++ more
  pub table : IsTable later

-- the atoms whose bits are set, where the first has the number i
abbrev pub chosen : List ℕ → ℕ → List Atom → List Atom
chosen words i [] = []
chosen words i (a ∷ atoms) = cond (has words i) (a ∷ chosen words (i + 1) atoms) (chosen words (i + 1) atoms)

-- the state that a set of numbers stands for: the static atoms and those of its numbers
abbrev pub state_of : Table → List ℕ → State
state_of t words = union t.statics (set_of (chosen words 0 t.atoms))

-- the set's numbers are of atoms of the table
pub record IsSetOf (t : Table) (words : List ℕ) : Type 0 where
  pub bits : IsBits words
  pub within : (x : ℕ) → has words x ≡ true → x < length t.atoms
