-- Lists of objects, narrowed by those that literals rule out.
use Rattle.std.specs.Prelude.{◌≡◌, ◌&&◌, Bool, List, [], ◌∷◌, false, nat_eq, true, ℕ}
use Rattle.std.specs.List.{list_any}
use Rattle.htn_model.specs.Instance.{Instance}
use Rattle.htn_model.specs.Problem.{Network}
use Rattle.htn_model.specs.State.{State}
use Rattle.htn_ground.specs.declared.fixed.FixedLiteral.{FixedLiteral}
use Rattle.htn_ground.specs.declared.relation.Relation.{Relation}
use Rattle.htn_ground.specs.Distinct.{gathered}
use Rattle.htn_ground.specs.Search.{matches}
use Rattle.htn_ground.specs.Shown.{Ignores}

-- whether values are one object of each list
abbrev pub is_choice : List (List ℕ) → List ℕ → Bool
is_choice [] [] = true
is_choice [] (o ∷ values) = false
is_choice (objects ∷ domains) [] = false
is_choice (objects ∷ domains) (o ∷ values) = list_any (nat_eq o) objects && is_choice domains values

-- the narrowed lists give the same instances as the lists, apart from those that a literal rules out
abbrev pub Narrows : State → List FixedLiteral → List (List ℕ) → List (List ℕ) → Type 0
Narrows state literals domains narrowed =
    (relations : List Relation) (shown : List Bool) (passes : Network → Bool) (make : List ℕ → Instance) → Ignores state literals shown passes make → (kept : List Instance)
    → gathered passes make kept (matches narrowed relations) ≡ gathered passes make kept (matches domains relations)
