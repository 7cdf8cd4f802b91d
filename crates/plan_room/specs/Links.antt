-- Which children of a line have the same task, and which positions of a network share choices.
use Rattle.std.specs.Prelude.{◌≡◌, ℕ, ◌≤◌, ◌<◌, ◌⊎◌, Bool, true, false, List, length, get_or, Option, Some, None}
use Rattle.indexmap.specs.IndexMap.{get}
use Rattle.htn_model.specs.Problem.{GroundTask, ground_task_eq, Order, is_before, Child, precondition, action, task}
use Rattle.plan_room.specs.Lines.{Lines, task_of}
use Rattle.plan_room.specs.Placing.{AreAhead}
use Rattle.plan_room.specs.Matching.{Seating, AreTwins, IsFixed}
use Rattle.plan_room.specs.declared.places.Places.{Places}
use Rattle.plan_room.specs.declared.links.Links.{Links}

-- the place of a ground task, if it has one
abbrev pub place_of : Places → GroundTask → Option ℕ
place_of places t = get ground_task_eq places.first t

-- the task of the line at a place of a list
abbrev pub task_at : Lines → List ℕ → ℕ → GroundTask
task_at l children c = task_of (l.plan_of (get_or children c 0))

-- the first of the places from one on that has the task
abbrev pub IsFirstPlace : (ℕ → GroundTask) → ℕ → ℕ → GroundTask → Option ℕ → Type 0
IsFirstPlace task_of from n t None = (c : ℕ) → from ≤ c → c < n → task_of c ≡ t → ⊥
IsFirstPlace task_of from n t (Some first) = (from ≤ first) × (first < n) × (task_of first ≡ t) × ((c : ℕ) → from ≤ c → c < n → task_of c ≡ t → first ≤ c)

-- each place leads on, to one with the same task or past all, and from a place on to no later one than the next
pub record AreNext (task_of : ℕ → GroundTask) (from n : ℕ) (after : List ℕ) : Type 0 where
  pub size : length after ≡ n
  pub more : (c : ℕ) → c < n → c < get_or after c 0
  pub within : (c : ℕ) → c < n → get_or after c 0 ≤ n
  pub same : (c : ℕ) → c < n → get_or after c 0 < n → task_of c ≡ task_of (get_or after c 0)
  pub next : (c d : ℕ) → from ≤ c → c < d → d < n → task_of c ≡ task_of d → get_or after c 0 ≤ d

-- a place if there is one, and otherwise the number past all
abbrev pub place_or : Option ℕ → ℕ → ℕ
place_or None n = n
place_or (Some place) n = place

-- the place of a node's task, and the last for a step
abbrev pub first_of : (GroundTask → Option ℕ) → ℕ → Child → ℕ
first_of find n (precondition literals) = n
first_of find n (action t) = place_or (find t) n
first_of find n (task t) = place_or (find t) n

-- where a flag is set, those from there on that have the same task are action lines, each later one after the earlier
-- ones
abbrev pub AreRising : (ℕ → GroundTask) → List ℕ → ℕ → ℕ → List Bool → Type 0
AreRising task_of children actions from rising = (c d : ℕ) → from ≤ c → c ≤ d → d < length children → get_or rising c false ≡ true → task_of c ≡ task_of d
    → (get_or children d 0 < actions) × ((e : ℕ) → d < e → e < length children → task_of c ≡ task_of e → get_or children d 0 < get_or children e 0)

-- where a flag is set, the later positions with the same first place are twins of that one, or come after it, and the
-- task's lines rise
abbrev pub AreFlagged : Order → List ℕ → (ℕ → ℕ) → List Bool → ℕ → (ℕ → Type 0) → Type 0
AreFlagged order sequence first rising from IsFlagged = (i j : ℕ) → from ≤ i → i < j → j < length sequence → IsFlagged (get_or sequence i 0)
    → first (get_or sequence i 0) ≡ first (get_or sequence j 0)
    → AreTwins order (get_or sequence i 0) (get_or sequence j 0)
    ⊎ ((is_before order (get_or sequence i 0) (get_or sequence j 0) ≡ true) × (get_or rising (first (get_or sequence i 0)) false ≡ true))

-- what stands at a position comes no earlier than its first; what can stand there after another, no earlier than that
-- one's next
pub record AreLinked (w : Seating) (k : ℕ) (links : Links) : Type 0 where
  pub firsts : length links.first.items ≡ length w.order
  pub first : (a c : ℕ) → c < k → w.suits a c ≡ true → get_or links.first.items a 0 ≤ c
  pub size : length links.after.items ≡ k
  pub more : (c : ℕ) → c < k → c < get_or links.after.items c 0
  pub within : (c : ℕ) → c < k → get_or links.after.items c 0 ≤ k
  pub next : (a c d : ℕ) → c < d → d < k → w.suits a c ≡ true → w.suits a d ≡ true → get_or links.after.items c 0 ≤ d
  pub fixed : (a : ℕ) → get_or links.fixed.items a false ≡ true → IsFixed w a
  pub ahead : AreAhead w.order w.sequence links.ahead.items
