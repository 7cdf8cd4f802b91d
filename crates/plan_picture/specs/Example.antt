-- A small forest: the actions 0 and 1, task 2 with the children 3 and 0, and task 3 with the child 1.
use Rattle.std.specs.Prelude.{ℕ, Bool, true, false, List, [], ◌∷◌, Option, Some, None}
use Rattle.plan_text.specs.Reached.{children_at}
use Rattle.plan_picture.specs.Rows.{Row}

-- the children as they are listed
abbrev pub listed_children : ℕ → List ℕ
listed_children = children_at 2 ((3 ∷ 0 ∷ []) ∷ (1 ∷ []) ∷ [])

-- and as they are drawn
abbrev pub drawn_children : ℕ → List ℕ
drawn_children = children_at 2 ((0 ∷ 3 ∷ []) ∷ (1 ∷ []) ∷ [])

-- a row
abbrev pub row : ℕ → Option ℕ → ℕ → List Bool → Bool → Row
row line parent depth above is_last = record { line = line; parent = parent; depth = depth; above = above; is_last = is_last }

-- the rows
abbrev pub rows : List Row
rows =
    row 2 None 0 [] true ∷ row 0 (Some 2) 1 (true ∷ []) false ∷ row 3 (Some 2) 1 (true ∷ []) true ∷ row 1 (Some 3) 2 (true ∷ true ∷ []) true ∷ []
