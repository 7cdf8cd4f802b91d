-- A walk through a forest that is under way.
use Rattle.std.specs.Prelude.{ℕ, suc, ◌+◌, ◌-◌, List, [], ◌∷◌, ◌++◌, drop, Option}
use Rattle.htn_model.specs.Tree.{Nodes, nodes_of, Place, total_size}
use Rattle.htn_ground.specs.Trees.{Numbering, nodes_view}
use Rattle.htn_plan.specs.declared.preorder.Frame.{Frame}
use Rattle.htn_plan.specs.Preorder.{Item, items_from}

-- the children of one node: how many were visited, and the trees that were not
pub record Level : Type 0 where
  pub taken : ℕ
  pub rest : Nodes

-- how many children of a frame were taken, and the trees of those that are left
abbrev pub level_of : Numbering → Frame → Level
level_of numbers f = record { taken = f.taken; rest = nodes_of (drop f.taken (nodes_view numbers f.children.now)) }

-- the place that was taken last, where the lowest level comes first
abbrev pub place_of : List Level → Place
place_of [] = []
place_of (l ∷ ls) = place_of ls ++ (l.taken - 1) ∷ []

-- what is still to come
abbrev pub pending : (Place → Option ℕ) → List Level → List (Item ℕ)
pending id_at [] = []
pending id_at (l ∷ ls) = items_from id_at (place_of ls) l.taken l.rest ++ pending id_at ls

-- as many steps as are left at most
abbrev pub steps_left : List Level → ℕ
steps_left [] = 0
steps_left (l ∷ ls) = suc (total_size l.rest + total_size l.rest) + steps_left ls
