-- The places of numbers of lines in a plan's text.
use Rattle.std.specs.Prelude.{◌≡◌, ℕ, List, [], ◌∷◌, ◌++◌, map, Option, Some, None}
use Rattle.std.specs.List.{zip}
use Rattle.htn_model.specs.PlanFile.{DecompositionLine, action_ids, decomposition_ids}
use Rattle.plan_messages.specs.Spots.{IsOnLine}
use Rattle.plan_messages.specs.declared.mentions.Mention.{Mention}
use Rattle.plan_messages.specs.declared.placed_plan.PlacedPlan.{PlacedPlan}

-- the number of each line, and where the line begins
abbrev pub defined_at : PlacedPlan → List (ℕ × ℕ)
defined_at p = zip (action_ids p.file.now.actions) p.places.now.actions.items ++ zip (decomposition_ids p.file.now.decompositions) p.places.now.decompositions.items

-- the numbers that a line lists, each with where that line begins
abbrev pub listed_by : List ℕ → ℕ → List (ℕ × ℕ)
listed_by ids line = map (λ id. (id, line)) ids

-- those of the root line
abbrev pub listed_by_root : List ℕ → List ℕ → List (ℕ × ℕ)
listed_by_root ids [] = []
listed_by_root ids (line ∷ lines) = listed_by ids line

-- those of decomposition lines
abbrev pub listed_by_lines : List DecompositionLine → List ℕ → List (ℕ × ℕ)
listed_by_lines [] places = []
listed_by_lines (line ∷ lines) [] = []
listed_by_lines (line ∷ lines) (place ∷ places) = listed_by line.children place ++ listed_by_lines lines places

-- each number that is listed, and where the line begins that lists it
abbrev pub listed_at : PlacedPlan → List (ℕ × ℕ)
listed_at p = listed_by_root p.file.now.roots p.places.now.roots.items ++ listed_by_lines p.file.now.decompositions p.places.now.decompositions.items

-- the number stands on the line that begins there
abbrev pub IsMention : List ℕ → ℕ × ℕ → Mention → Type 0
IsMention text at m = (m.id ≡ at.0) × IsOnLine text at.1 m.place

-- ---- what the code computes

-- the number of a line, where the line has a place
abbrev pub placed : ℕ → Option ℕ → List (ℕ × ℕ)
placed id None = []
placed id (Some line) = (id, line) ∷ []

-- the numbers that a line lists, where it has a place
abbrev pub listed_if : List ℕ → Option ℕ → List (ℕ × ℕ)
listed_if ids None = []
listed_if ids (Some line) = listed_by ids line
