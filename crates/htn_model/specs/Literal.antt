-- Ground literals and actions: when a literal holds in a state, and the state after an action.
use Rattle.std.specs.Prelude.{◌≡◌, ℕ, Bool, true, false, not, ◌&&◌, List, nat_eq, refl, ◌⊎◌}
use Rattle.std.specs.Bool.{beq}
use Rattle.std.specs.Coded.{Coded, code_by, coded×, coded⊎, coded_ℕ, coded_bool, coded_list}
use Rattle.std.specs.List.{list_all}
use mathlib.Core.Logic.{inl, inr}
use Rattle.htn_model.specs.Atom.{Atom, atom_code, atom_eq}
use Rattle.htn_model.specs.State.{State, state_code, contains, difference, union}

-- an atom or an equality of two objects, plain or negated
pub data Literal : Type 0 where
  atom : (is_positive : Bool) → Atom → Literal
  equality : (is_positive : Bool) → (left right : ℕ) → Literal

-- whether a literal holds in a state
abbrev pub literal_holds : State → Literal → Bool
literal_holds state (atom true a) = contains state a
literal_holds state (atom false a) = not (contains state a)
literal_holds state (equality true x y) = nat_eq x y
literal_holds state (equality false x y) = not (nat_eq x y)

-- whether all literals of a conjunction hold
abbrev pub holds : State → List Literal → Bool
holds state literals = list_all (literal_holds state) literals

-- an action: its precondition, which has to hold, and its effects
pub record Action : Type 0 where
  pub precondition : List Literal
  pub deletes : State
  pub adds : State

-- the state without the deleted atoms, and then with the added ones
abbrev pub after : State → Action → State
after state action = union (difference state action.deletes) action.adds

-- ## As values

-- whether two literals are equal
abbrev pub literal_eq : Literal → Literal → Bool
literal_eq (atom p a) (atom q b) = beq p q && atom_eq a b
literal_eq (atom p a) (equality q x y) = false
literal_eq (equality p x y) (atom q b) = false
literal_eq (equality p x y) (equality q v w) = beq p q && (nat_eq x v && nat_eq y w)

-- a literal as a sign with an atom, or with two objects
abbrev pub literal_parts : Literal → (Bool × Atom) ⊎ (Bool × (ℕ × ℕ))
literal_parts (atom p a) = inl (p, a)
literal_parts (equality p x y) = inr (p, (x, y))

-- the literal of these parts
abbrev pub literal_of : (Bool × Atom) ⊎ (Bool × (ℕ × ℕ)) → Literal
literal_of (inl l) = atom l.0 l.1
literal_of (inr l) = equality l.0 l.1.0 l.1.1

-- a literal is that of its parts
pub literal_of-parts : (l : Literal) → literal_of (literal_parts l) ≡ l
literal_of-parts (atom p a) = refl
literal_of-parts (equality p x y) = refl

-- literals as values: their parts in turn
abbrev pub literal_code : Coded Literal
literal_code =
    code_by ((Bool × Atom) ⊎ (Bool × (ℕ × ℕ))) (coded⊎ (coded× coded_bool atom_code) (coded× coded_bool (coded× coded_ℕ coded_ℕ)))
    literal_parts literal_of literal_of-parts

-- actions as values: their parts in turn
abbrev pub action_code : Coded Action
action_code =
    code_by (List Literal × (State × State)) (coded× (coded_list literal_code) (coded× state_code state_code))
    (λ a. (a.precondition, (a.deletes, a.adds))) (λ p. record { precondition = p.0; deletes = p.1.0; adds = p.1.1 }) (λ _. refl)
