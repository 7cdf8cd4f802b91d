-- The order in which the children of a line are drawn.
use Rattle.std.specs.Prelude.{◌≡◌, ℕ, Bool, true, false, if◌then◌else◌, List, [], ◌∷◌, filter, Option, Some, None}
use Rattle.std.specs.List.Sorted.{IsPermutation, IsNonDecreasingBy}

-- whether a line has an action at it or below it
abbrev pub is_some : Option ℕ → Bool
is_some None = false
is_some (Some first) = true

-- the first action as a number, 0 for none
abbrev pub number_of : Option ℕ → ℕ
number_of None = 0
number_of (Some first) = first

-- the lines, where each that has an action gives its place to the next of some others
abbrev pub refilled : (ℕ → Option ℕ) → List ℕ → List ℕ → List ℕ
refilled first [] others = []
refilled first (line ∷ lines) [] = line ∷ refilled first lines []
refilled first (line ∷ lines) (other ∷ others) =
    if is_some (first line) then other ∷ refilled first lines others else line ∷ refilled first lines (other ∷ others)

-- Lines as they are listed, and as they are drawn: those with actions by their first action, in the places that lines
-- with actions have in the list; a line without actions keeps its place.
pub record AreDrawn (first : ℕ → Option ℕ) (listed drawn : List ℕ) : Type 0 where
  pub by_action : List ℕ
  pub same_lines : IsPermutation (filter (λ line. is_some (first line)) listed) by_action
  pub ascending : IsNonDecreasingBy (λ line. number_of (first line)) by_action
  pub places : drawn ≡ refilled first listed by_action

-- list by list
abbrev pub AreAllDrawn : (ℕ → Option ℕ) → List (List ℕ) → List (List ℕ) → Type 0
AreAllDrawn first [] drawn = drawn ≡ []
AreAllDrawn first (listed ∷ lists) [] = ⊥
AreAllDrawn first (listed ∷ lists) (drawn ∷ more) = AreDrawn first listed drawn × AreAllDrawn first lists more
