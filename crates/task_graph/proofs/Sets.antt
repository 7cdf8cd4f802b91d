-- Sets of ground tasks.
use Rattle.std.proofs.Common.{◌≡◌, ◌∙◌, Bool, true, false, List, [], ◌∷◌, ◌++◌, All, refl, ap, ap₂, ◌||◌, if◌then◌else◌}
use Rattle.std.specs.List.{list_any}
use Rattle.std.proofs.lemmas.List.Elements.{All-push}
use Rattle.std.proofs.lemmas.List.Folds.{list_any-append}
use Rattle.indexmap.specs.IndexSet.{insert_key}
use Rattle.htn_model.specs.Equality.{ground_task_eq-decides}
use Rattle.htn_model.specs.Problem.{GroundTask, ground_task_eq}

-- what holds of all holds when one is put in of which it holds
pub put_all : (P : GroundTask → Type 0) (keys : List GroundTask) (g : GroundTask) → P g → All P keys → All P (insert_key ground_task_eq keys g)
put_all P keys g here all = elim (list_any (ground_task_eq g) keys) as (λ b. All P (if b then keys else keys ++ g ∷ [])) [
  | true ↦ all
  | false ↦ All-push P keys g all here
]

-- it is there then
pub put_among : (keys : List GroundTask) (g : GroundTask) → list_any (ground_task_eq g) (insert_key ground_task_eq keys g) ≡ true
put_among keys g = by (list_any (ground_task_eq g) keys) refl
  where
    by : (b : Bool) → list_any (ground_task_eq g) keys ≡ b → list_any (ground_task_eq g) (if b then keys else keys ++ g ∷ []) ≡ true
    by true e = e
    by false e = list_any-append (ground_task_eq g) keys (g ∷ []) ∙ ap₂ (λ a b. a || (b || false)) e ((ground_task_eq-decides g g).1 refl)

-- what was there is there
pub put_stays : (keys : List GroundTask) (g h : GroundTask) → list_any (ground_task_eq h) keys ≡ true → list_any (ground_task_eq h) (insert_key ground_task_eq keys g) ≡ true
put_stays keys g h there = elim (list_any (ground_task_eq g) keys) as (λ b. list_any (ground_task_eq h) (if b then keys else keys ++ g ∷ []) ≡ true) [
  | true ↦ there
  | false ↦ list_any-append (ground_task_eq h) keys (g ∷ []) ∙ ap (λ b. b || list_any (ground_task_eq h) (g ∷ [])) there
]
