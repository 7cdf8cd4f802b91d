-- Which facts may become true and which may become false, each on its own: what becomes false may still be true.
use Rattle.std.specs.Prelude.{Bool, true, false, not, ◌&&◌, ◌||◌, List, nat_eq}
use Rattle.std.specs.List.{list_all}
use Rattle.htn_model.specs.Atom.{Atom}
use Rattle.htn_model.specs.State.{State, atoms_of, contains}
use Rattle.htn_model.specs.Literal.{Literal, atom, equality, Action}

-- the atoms that may become true, and those that are true and stay so
pub record Facts : Type 0 where
  pub may_hold : Atom → Bool
  pub lasting : State

-- whether an atom may become false: it isn't one that stays true
abbrev pub may_fail : Facts → Atom → Bool
may_fail f a = not (contains f.lasting a)

-- whether a literal may become true
abbrev pub is_possible : Facts → Literal → Bool
is_possible f (atom true a) = f.may_hold a
is_possible f (atom false a) = may_fail f a
is_possible f (equality true x y) = nat_eq x y
is_possible f (equality false x y) = not (nat_eq x y)

-- whether each of some literals may
abbrev pub are_possible : Facts → List Literal → Bool
are_possible f literals = list_all (is_possible f) literals

-- whether a state is made of these facts: what is true in it may become true, and what stays true is true in it
abbrev pub is_within : Facts → State → Bool
is_within f state = list_all f.may_hold (atoms_of state) && list_all (contains state) (atoms_of f.lasting)

-- whether an action's effects are among them: what it adds may become true; what it deletes may become false, unless
-- the action adds it again
abbrev pub has_effects : Facts → Action → Bool
has_effects f a = list_all f.may_hold (atoms_of a.adds) && list_all (λ x. may_fail f x || contains a.adds x) (atoms_of a.deletes)
