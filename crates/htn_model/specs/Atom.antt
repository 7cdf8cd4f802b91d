-- Ground atoms, their order and their equality.
use Rattle.std.specs.Prelude.{ℕ, Bool, ◌++◌, List, refl, nat_eq}
use Rattle.std.specs.Coded.{Coded, code_by, coded×, coded_ℕ, coded_list}
use Rattle.std.specs.declared.cmp.Ordering.{Ordering}
use Rattle.std.specs.Ordering.{on, then_cmp, nat_cmp, eq_of_both}
use Rattle.std.specs.Cmp.Lexicographic.{slice_cmp, pointwise}
use Rattle.std.specs.Hash as fed
use Rattle.std.specs.Hash.{HashWrites}

-- a predicate at a list of objects, all by their numbers
pub record Atom : Type 0 where
  pub predicate : ℕ
  pub arguments : List ℕ

-- an atom is stored as the pair of its fields
abbrev pub atom_code : Coded Atom
atom_code =
    code_by (ℕ × List ℕ) (coded× coded_ℕ (coded_list coded_ℕ)) (λ a. (a.predicate, a.arguments))
    (λ p. record { predicate = p.0; arguments = p.1 }) (λ _. refl)

-- the order of atoms: by the predicate, and then by the arguments in their order
abbrev pub atom_cmp : Atom → Atom → Ordering
atom_cmp = then_cmp (on (λ a. a.predicate) nat_cmp) (on (λ a. a.arguments) (slice_cmp nat_cmp))

-- whether two atoms are equal
abbrev pub atom_eq : Atom → Atom → Bool
atom_eq = eq_of_both (on (λ a. a.predicate) nat_eq) (on (λ a. a.arguments) (pointwise nat_eq))

-- the writes by which an atom feeds a hasher
abbrev pub atom_hash : Atom → HashWrites
atom_hash a = fed.u16 a.predicate ++ fed.slice fed.u16 a.arguments
