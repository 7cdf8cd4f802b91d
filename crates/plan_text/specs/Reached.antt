-- The lines that the root line reaches, by their numbers.
use Rattle.std.specs.Prelude.{◌≡◌, ℕ, ◌-◌, ◌<◌, List, [], ◌++◌, length, get_or, Bool, true, false, cond, ltb}
use Rattle.std.specs.List.{All}
use Rattle.htn_model.specs.PlanFile.{IsIn, IsWithoutRepeats}

-- the children of a line: an action line has none
abbrev pub children_at : (actions : ℕ) → List (List ℕ) → ℕ → List ℕ
children_at actions children line = cond (ltb line actions) [] (get_or children (line - actions) [])

-- the line is a root, or a child of a line that is reached
pub data IsReachedFrom (actions : ℕ) (roots : List ℕ) (children : List (List ℕ)) : ℕ → Type 0 where
  a_root : (line : ℕ) → IsIn line roots → IsReachedFrom actions roots children line
  a_child : (parent line : ℕ) → IsReachedFrom actions roots children parent → IsIn line (children_at actions children parent) → IsReachedFrom actions roots children line

-- roots and children are lines
abbrev pub AreWithin : ℕ → List ℕ → List (List ℕ) → Type 0
AreWithin count roots children = All (λ line. line < count) roots × All (All (λ line. line < count)) children

-- ## The walk

-- exactly the lines that were met have a mark, and each was met once
pub record AreMet (met : List Bool) (lines : List ℕ) : Type 0 where
  pub within : (line : ℕ) → IsIn line lines → line < length met
  pub once : IsWithoutRepeats lines
  pub marked : (line : ℕ) → IsIn line lines → get_or met line false ≡ true
  pub only : (line : ℕ) → get_or met line false ≡ true → IsIn line lines

-- the lines that are added are some of these, and afterwards each of these is among the lines
pub record AreAdded (old new more : List ℕ) : Type 0 where
  pub added : List ℕ
  pub is : new ≡ old ++ added
  pub some : (line : ℕ) → IsIn line added → IsIn line more
  pub all : (line : ℕ) → IsIn line more → IsIn line new
