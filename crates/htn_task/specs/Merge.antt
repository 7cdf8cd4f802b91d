-- Two ascending lists of atoms as one.
use Rattle.std.specs.Prelude.{not, List, [], ◌∷◌}
use Rattle.std.specs.declared.cmp.Ordering.{Ordering}
use Rattle.std.specs.declared.cmp.Ordering.TheVariants.{Less, Equal, Greater}
use Rattle.htn_model.specs.Atom.{Atom, atom_cmp}
use Rattle.std.specs.List.{filter}
use Rattle.htn_model.specs.State.{State, contains}

-- the atoms that are not deleted
abbrev pub kept : State → List Atom → List Atom
kept deletes atoms = filter (λ a. not (contains deletes a)) atoms

-- one of three values, by how two atoms compare
abbrev pub by_order : {A : Type 0} → Ordering → A → A → A → A
by_order Less a b c = a
by_order Equal a b c = b
by_order Greater a b c = c

-- x and what `next` makes of the atoms of a list that are not below it, after those that are
abbrev pub merge_first : Atom → (List Atom → List Atom) → List Atom → List Atom
merge_first x next [] = x ∷ next []
merge_first x next (y ∷ ys) = by_order (atom_cmp x y) (x ∷ next (y ∷ ys)) (x ∷ next ys) (y ∷ merge_first x next ys)

-- the atoms of both lists in their order, each once
abbrev pub merge : List Atom → List Atom → List Atom
merge [] ys = ys
merge (x ∷ xs) ys = merge_first x (merge xs) ys
