-- Intervals of places in a walk of numbers.
use Rattle.std.specs.Prelude.{◌≡◌, ◌<◌, ◌≤◌, ◌↔◌, ◌⊎◌, ℕ, suc, Some, List, [], ◌∷◌, length, get_or, slice_get, All, Contains}
use Rattle.hddl_names.specs.Rows.{AreRows, turned}
use Rattle.hddl_names.specs.Reach.{Reaches}
use Rattle.hddl_names.specs.declared.intervals.Interval.{Interval}

-- the interval of a number, the empty one where none is stored
abbrev pub interval_at : List Interval → ℕ → Interval
interval_at intervals number = get_or intervals number (record { start = 0; end = 0 })

-- the first place of a number's interval
abbrev pub start_of : List Interval → ℕ → ℕ
start_of intervals number = (interval_at intervals number).start

-- the place after the last of a number's interval
abbrev pub end_of : List Interval → ℕ → ℕ
end_of intervals number = (interval_at intervals number).end

-- a place is in the interval of a number
abbrev pub Holds : List Interval → ℕ → ℕ → Type 0
Holds intervals number place = (start_of intervals number ≤ place) × (place < end_of intervals number)

-- the place of the first number is in the interval of the second
abbrev pub IsInside : List Interval → ℕ → ℕ → Type 0
IsInside intervals a b = Holds intervals b (start_of intervals a)

-- the intervals of the numbers go from a place to another, one after the other, and none has no places
abbrev pub Tile : List Interval → List ℕ → ℕ → ℕ → Type 0
Tile intervals [] from to = from ≡ to
Tile intervals (c ∷ rest) from to = (start_of intervals c ≡ from) × (from < end_of intervals c) × Tile intervals rest (end_of intervals c) to

-- the interval of each number but 0 is its own place and then the intervals of its row
abbrev pub AreTiled : List Interval → List (List ℕ) → Type 0
AreTiled intervals rows =
    (number : ℕ) → 0 < number → number < length rows → Tile intervals (get_or rows number []) (suc (start_of intervals number)) (end_of intervals number)

-- each number is in the order at its place
abbrev pub StandAtPlaces : List Interval → List ℕ → Type 0
StandAtPlaces intervals order = (number : ℕ) → number < length intervals → slice_get order (start_of intervals number) ≡ Some number

-- a number is inside another that isn't 0 exactly where it leads to it, or is it
abbrev pub Tell : List (ℕ × ℕ) → List Interval → Type 0
Tell pairs intervals = (a b : ℕ) → a < length intervals → 0 < b → b < length intervals → IsInside intervals a b ↔ Reaches pairs a b

-- the top of a number's line, the number itself where none is stored
abbrev pub top_at : List ℕ → ℕ → ℕ
top_at tops number = get_or tops number number

-- a number with this row of parents is its own top, or has parents and is inside its top; and all its parents have the
-- same top
abbrev pub HasTop : List Interval → List ℕ → List ℕ → ℕ → Type 0
HasTop intervals tops row number =
    ((top_at tops number ≡ number) ⊎ ((row ≡ [] → ⊥) × (0 < top_at tops number) × IsInside intervals number (top_at tops number)))
    × All (λ parent. top_at tops parent ≡ top_at tops number) row

-- each number that has a row of parents has its top
abbrev pub HaveTops : List Interval → List ℕ → List (List ℕ) → Type 0
HaveTops intervals tops rows = (number : ℕ) → number < length rows → HasTop intervals tops (get_or rows number []) number

-- each line ends at its top
pub record AreTops (pairs : List (ℕ × ℕ)) (count : ℕ) (tops : List ℕ) : Type 0 where
  pub reached : (a : ℕ) → a < count → Reaches pairs a (top_at tops a)
  pub alike : (a b : ℕ) → Contains {X = ℕ × ℕ} pairs (a, b) → top_at tops a ≡ top_at tops b
  pub last : (a : ℕ) → a < count → ((b : ℕ) → Contains {X = ℕ × ℕ} pairs (a, b) → ⊥) → top_at tops a ≡ a

-- intervals and tops that decide which number leads to which along the pairs of the rows
abbrev pub TellOfRows : List (List ℕ) → List (List ℕ) → List Interval → List ℕ → Type 0
TellOfRows up down intervals tops =
    (pairs : List (ℕ × ℕ)) → AreRows pairs up → AreRows (turned pairs) down → (length intervals ≡ length down) × Tell pairs intervals × AreTops pairs (length up) tops
