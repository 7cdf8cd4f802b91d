-- The places of children.
use Rattle.std.specs.Prelude.{ℕ, zero, suc, List, [], ◌∷◌, ◌++◌, map, reverse}
use Rattle.std.specs.Global.{Vec}
use Rattle.htn_model.specs.Problem.{Child, precondition, action, task}
use Rattle.htn_model.specs.Tree.{Place}

-- places as lists
abbrev pub places_view : List (Vec ℕ) → List Place
places_view places = map (λ p. p.items) places

-- the places of the open nodes, which are stored from the last to the first
abbrev pub open_places : List (Vec ℕ) → List Place
open_places places = places_view (reverse places)

-- the places of `count` children of the node at a place, from a position on
abbrev pub child_places : Place → ℕ → ℕ → List Place
child_places place position zero = []
child_places place position (suc count) = (place ++ position ∷ []) ∷ child_places place (suc position) count

-- the places that a node adds to those that are carried out: its own for an action or a step, none for a compound task
abbrev pub own_place : Child → Place → List Place
own_place (precondition literals) place = place ∷ []
own_place (action g) place = place ∷ []
own_place (task t) place = []
