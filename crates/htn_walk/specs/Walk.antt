-- A walk along a word.
use Rattle.std.specs.Prelude.{◌≡◌, ℕ, [], ◌∷◌, ◌++◌, get_or, length, Some}
use Rattle.htn_model.specs.Grounding.{problem_of}
use Rattle.htn_model.specs.Problem.{Network, Problem}
use Rattle.htn_model.specs.Task.{Task}
use Rattle.htn_model.specs.Tree.{Solution, nodes_of}
use Rattle.htn_model.specs.Choice.{splice, child_of}
use Rattle.htn_model.specs.Machine.{Choice, choose, result_of, start}
use Rattle.htn_ground.specs.Trees.{number_of}
use Rattle.htn_walk.specs.declared.trail.Move.{Move}
use Rattle.htn_walk.specs.declared.walk.Walk.{Walk}
use Rattle.htn_walk.specs.Trail.{IsMove, before_moves}
use Rattle.htn_walk.specs.Places.{child_places, open_places, own_place, places_view}

-- the walk after one number: at the configuration to which the number leads, with its move recorded, the places of its
-- children added, and its own place added where it is carried out
pub record IsOneOn (t : Task) (number : ℕ) (old new : Walk) : Type 0 where
  pub choice : Choice
  pub chooses : choose (problem_of t) old.config number ≡ Some choice
  pub config : new.config ≡ result_of old.config choice
  pub last : Move
  pub is_move : IsMove (number_of t) old.config number choice last
  pub trail : new.trail.items ≡ old.trail.items ++ last ∷ []
  pub places : open_places new.places.items
      ≡ splice choice.position (child_places (get_or (open_places old.places.items) choice.position []) 0 (length choice.network.children)) (open_places old.places.items)
  pub visits : places_view new.visits.items
      ≡ places_view old.visits.items ++ own_place (child_of old.config.open_nodes choice.position) (get_or (open_places old.places.items) choice.position [])

-- the walk at the start, with an initial network: its children are open, and nothing is recorded yet
pub record IsStart (problem : Problem) (network : Network) (walk : Walk) : Type 0 where
  pub config : walk.config ≡ start problem network
  pub places : open_places walk.places.items ≡ child_places [] 0 (length network.children)
  pub trail : walk.trail.items ≡ []
  pub visits : places_view walk.visits.items ≡ []

-- the solution of a task that a walk has recorded, from an initial network of this number
abbrev pub recorded : Task → ℕ → Walk → Solution
recorded t number walk = record { number = number; trees = nodes_of (before_moves (number_of t) walk.trail.items []); linearisation = places_view walk.visits.items }
