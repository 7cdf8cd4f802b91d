-- The closure of pairs of numbers, stored as lines and junctions.
use Rattle.std.specs.Prelude.{◌≡◌, ◌<◌, ◌↔◌, ◌⊎◌, ℕ, true, not, ◌&&◌, Option, Some, IfSome, List, [], length, get_or, slice_get, nat_eq, Contains}
use Rattle.std.specs.List.{filter, list_any, position}
use Rattle.hddl_names.specs.Intervals.{IsInside, top_at}
use Rattle.hddl_names.specs.NumberSets.{has}
use Rattle.hddl_names.specs.Reach.{Reaches}
use Rattle.hddl_names.specs.declared.intervals.Interval.{Interval}

-- junctions, the intervals and tops of lines between them, and for each number the positions of the junctions that lead
-- to it
pub record Closure : Type 0 where
  pub junctions : List ℕ
  pub intervals : List Interval
  pub tops : List ℕ
  pub sets : List (List ℕ)

-- the set that is stored for a number, empty where none is
abbrev pub set_of : List (List ℕ) → ℕ → List ℕ
set_of sets number = get_or sets number []

-- the pairs along lines: those of numbers that are no junctions with others than 0
abbrev pub along_lines : List ℕ → List (ℕ × ℕ) → List (ℕ × ℕ)
along_lines junctions pairs = filter (λ p. not (nat_eq p.1 0) && not (list_any (nat_eq p.0) junctions)) pairs

-- each position in a number's set is that of a junction which leads to it
abbrev pub AreSound : List (ℕ × ℕ) → List ℕ → List (List ℕ) → Type 0
AreSound pairs junctions sets = (number i : ℕ) → has (set_of sets number) i ≡ true → (j : ℕ) × (slice_get junctions i ≡ Some j) × Reaches pairs j number

-- one set of bits has no more than another
abbrev pub IsWithin : List ℕ → List ℕ → Type 0
IsWithin these those = (x : ℕ) → has these x ≡ true → has those x ≡ true

-- each junction's set has its own position
abbrev pub HaveOwn : List ℕ → List (List ℕ) → Type 0
HaveOwn junctions sets = (i j : ℕ) → slice_get junctions i ≡ Some j → has (set_of sets j) i ≡ true

-- the set of each number has what those of its row have
abbrev pub AreCarried : List (List ℕ) → List (List ℕ) → Type 0
AreCarried rows sets = (number child : ℕ) → Contains (get_or rows number []) child → IsWithin (set_of sets child) (set_of sets number)

-- the line of a ends at a junction that leads to b
abbrev pub PassesTo : Closure → ℕ → ℕ → Type 0
PassesTo c a b = (i : ℕ) × (position (nat_eq (top_at c.tops a)) c.junctions ≡ Some i) × (has (set_of c.sets b) i ≡ true)

-- a leads to b: within the line of b, or by a junction at the end of its own
abbrev pub LeadsTo : Closure → ℕ → ℕ → Type 0
LeadsTo c a b = IsInside c.intervals a b ⊎ PassesTo c a b

-- a junction leads to both
abbrev pub ShareJunction : Closure → ℕ → ℕ → Type 0
ShareJunction c a b = (i : ℕ) × (has (set_of c.sets a) i ≡ true) × (has (set_of c.sets b) i ≡ true)

-- something leads to both: one leads to the other, or a junction leads to both
abbrev pub Meet : Closure → ℕ → ℕ → Type 0
Meet c a b = LeadsTo c a b ⊎ LeadsTo c b a ⊎ ShareJunction c a b

-- the closure decides which number leads to which along the pairs, and whether some number leads to both of two
pub record Tells (pairs : List (ℕ × ℕ)) (count : ℕ) (c : Closure) : Type 0 where
  pub leads : (a b : ℕ) → a < count → 0 < b → b < count → LeadsTo c a b ↔ Reaches pairs a b
  pub meet : (a b : ℕ) → 0 < a → a < count → 0 < b → b < count → Meet c a b ↔ ((s : ℕ) × (s < count) × Reaches pairs s a × Reaches pairs s b)
