-- What the search for first actions is stated by.
use Rattle.std.specs.Prelude.{ℕ, nat_le, if◌then◌else◌, List, [], ◌∷◌, map, Option, Some, None}
use Rattle.htn_model.specs.PlanFile.{IsIn}
use Rattle.plan_picture.specs.Rows.{Row}

-- the lines of rows
abbrev pub lines_of : List Row → List ℕ
lines_of rows = map (λ r. r.line) rows

-- after each line come its children
abbrev pub AreAfter : (ℕ → List ℕ) → List ℕ → Type 0
AreAfter children [] = Unit {0}
AreAfter children (line ∷ lines) = ((child : ℕ) → IsIn child (children line) → IsIn child lines) × AreAfter children lines

-- the less of two numbers, where there are two
abbrev pub earlier : Option ℕ → Option ℕ → Option ℕ
earlier None other = other
earlier (Some one) None = Some one
earlier (Some one) (Some other) = Some (if nat_le one other then one else other)
