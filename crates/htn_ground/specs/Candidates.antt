-- The objects that the true atoms of a literal leave to a parameter.
use Rattle.std.specs.Prelude.{ℕ, Bool, true, false, not, nat_eq, nat_lt, ◌&&◌, ◌≡◌, List, [], ◌∷◌, ◌++◌, map, length, take, drop}
use Rattle.std.specs.List.{filter, list_any, remove}
use Rattle.std.specs.Option.{unwrap_or}
use Rattle.htn_model.specs.Atom.{Atom}
use Rattle.htn_model.specs.State.{State, atoms_of, contains, set_of}
use Rattle.htn_model.specs.Instances.{value_of}
use Rattle.htn_task.specs.Views.{terms_of}
use Rattle.htn_ground.specs.declared.candidates.Candidates.{Candidates}
use Rattle.htn_ground.specs.declared.fixed.FixedLiteral.{FixedLiteral}
use Rattle.htn_ground.specs.Search.{fixed_holds, is_ruled_out_so_far}

-- the atom of the candidates' literal under values
abbrev pub atom_of : List ℕ → Candidates → Atom
atom_of values c = record { predicate = c.predicate; arguments = map (value_of values) (terms_of c.arguments.items) }

-- the atoms among which an object's atom has to be
abbrev pub rows_of : State → Candidates → State
rows_of state c = unwrap_or c.rows state

-- whether no true atom has the object after these values
abbrev pub is_excluded : State → Candidates → List ℕ → ℕ → Bool
is_excluded state c values o = not (contains (rows_of state c) (atom_of (values ++ o ∷ []) c))

-- whether some literal of the next parameter excludes the object
abbrev pub is_left_out : State → List Candidates → List ℕ → ℕ → Bool
is_left_out state all values o = list_any (λ c. nat_eq c.depth (length values) && is_excluded state c values o) all

-- an object that is excluded makes the literal false
abbrev pub AgreesWith : State → FixedLiteral → Candidates → Type 0
AgreesWith state l c = (values : List ℕ) (o : ℕ) → is_excluded state c values o ≡ true → fixed_holds state (values ++ o ∷ []) l ≡ false

-- an object that is excluded is ruled out
abbrev pub Excludes : State → List FixedLiteral → Candidates → Type 0
Excludes state literals c =
    (values : List ℕ) (o : ℕ) → length values ≡ c.depth → is_excluded state c values o ≡ true → is_ruled_out_so_far state literals (values ++ o ∷ []) ≡ true

-- ## The argument of the parameter behind the others

-- the item at the place is moved behind the others
abbrev pub moved_last : {X : Type 0} → ℕ → List X → List X
moved_last place items = remove items place ++ take 1 (drop place items)

-- the argument at the place is moved behind the others
abbrev pub moved_atom : ℕ → Atom → Atom
moved_atom place a = record { predicate = a.predicate; arguments = moved_last place a.arguments }

-- the state's atoms of the predicate that have such an argument, each moved so
abbrev pub moved_atoms : State → ℕ → ℕ → State
moved_atoms state predicate place = set_of (map (moved_atom place) (filter (λ a. nat_eq a.predicate predicate && nat_lt place (length a.arguments)) (atoms_of state)))
