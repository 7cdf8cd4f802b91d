-- What of a picture shows its forest: the id of each row, and how many lines it is below.
use Rattle.std.specs.Prelude.{◌≡◌, ℕ, List, map}
use Rattle.plan_picture.specs.Rows.{Row, root_rows, ArePreorder}

-- a row's id and its depth
pub record Entry : Type 0 where
  pub id : ℕ
  pub depth : ℕ

-- the id and the depth of each row
abbrev pub outline : (ℕ → ℕ) → List Row → List Entry
outline id rows = map (λ r. record { id = id r.line; depth = r.depth }) rows

-- the ids of the children of each row
abbrev pub families : (ℕ → ℕ) → (ℕ → List ℕ) → List Row → List (List ℕ)
families id children rows = map (λ r. map id (children r.line)) rows

-- Two forests with one outline have the same roots, and the same children of each line, by their ids.
abbrev pub OutlinesAreForests : Type 0
OutlinesAreForests =
    (id other_id : ℕ → ℕ) (children other_children : ℕ → List ℕ) (roots other_roots : List ℕ) (rows other_rows : List Row)
    → ArePreorder children (root_rows roots) rows → ArePreorder other_children (root_rows other_roots) other_rows → outline id rows ≡ outline other_id other_rows
    → (map id roots ≡ map other_id other_roots) × (families id children rows ≡ families other_id other_children other_rows)
