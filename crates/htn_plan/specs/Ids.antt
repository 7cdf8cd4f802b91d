-- The ids of actions, by their places.
use Rattle.std.specs.Prelude.{◌≡◌, ℕ, nat_eq, List, Option, Some, None, cond, unwrap_or, map, take}
use Rattle.std.specs.Cmp.Lexicographic.{pointwise}
use Rattle.std.specs.List.{AllByRecursion, filter, list_any}
use Rattle.htn_model.specs.Numbered.{action_line_at, id_in, is_leaf, is_same_place}
use Rattle.htn_model.specs.Tree.{Place, Solution, node_at}
use Rattle.htn_model.specs.PlanFile.{ActionLine}
use Rattle.htn_model.specs.Task.{Task}
use Rattle.plan_text.specs.PlanFile.{IsActionLine}
use Rattle.htn_ground.specs.Naming.{naming_of}
use Rattle.htn_plan.specs.declared.ids.ActionIds.{ActionIds}
use Rattle.indexmap.specs.IndexMap.{get}

-- the id at a place, if it has one
abbrev pub id_of : ActionIds → Place → Option ℕ
id_of ids p = get (pointwise nat_eq) ids.by_place p

-- the id is that of the place, or the next one if it had none
abbrev pub IsNumbered : ActionIds → ActionIds → Place → ℕ → ℕ → Type 0
IsNumbered old new place next id =
    (id ≡ unwrap_or (id_of old place) next) × ((p : Place) → id_of new p ≡ cond (pointwise nat_eq place p) (Some id) (id_of old p))

-- the id of an action's place in a solution, if it is among these
abbrev pub id_among : Solution → List Place → Place → Option ℕ
id_among s places p = cond (list_any (is_same_place p) places) (Some (id_in s p)) None

-- the places of the actions among the first `k` places of the linearisation
abbrev pub first_actions : Solution → ℕ → List Place
first_actions s k = filter (λ p. is_leaf (node_at s.trees p)) (take k s.linearisation)

-- the lines and the ids of these places are those of the first actions
abbrev pub AreNumbered : Task → Solution → ℕ → List ActionLine → ActionIds → Type 0
AreNumbered t s k lines ids =
    (lines ≡ map (action_line_at (naming_of t) s) (first_actions s k)) × AllByRecursion IsActionLine lines × ((p : Place) → id_of ids p ≡ id_among s (first_actions s k) p)
