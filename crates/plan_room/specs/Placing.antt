-- Where the positions of a network are placed between gaps, each as early as it can be.
use Rattle.std.specs.Prelude.{◌≡◌, ℕ, ◌≤◌, ◌<◌, List, length, get_or, true, false, ⊤}
use Rattle.htn_model.specs.Problem.{Order, is_before}
use Rattle.htn_model.specs.Fits.{AreSpans}
use Rattle.plan_room.specs.declared.rooms.Finish.{Finish}
use Rattle.plan_room.specs.declared.rooms.Finish.TheVariants.{Unknown, Never, At}

-- the condition under which the choice at a position has room from a gap to a gap
abbrev pub Room : Type 1
Room = ℕ → ℕ → ℕ → Type 0

-- h is the first gap of which it holds, and not past gap n
pub record IsFirst (Holds : ℕ → Type 0) (n h : ℕ) : Type 0 where
  pub within : h ≤ n
  pub fits : Holds h
  pub least : (k : ℕ) → Holds k → h ≤ k

-- the first gap of which it holds, or that there is none up to gap n
abbrev pub IsFinish : (ℕ → Type 0) → ℕ → Finish → Type 0
IsFinish Holds n (Unknown question) = ⊤
IsFinish Holds n Never = (k : ℕ) → k ≤ n → Holds k → ⊥
IsFinish Holds n (At h) = IsFirst Holds n h

-- each position has a span in which its choice has room
pub record HaveSpans (room : Room) (order : Order) (g h : ℕ) (start finish : ℕ → ℕ) : Type 0 where
  pub spans : AreSpans order start finish g h
  pub rooms : (a : ℕ) → a < length order → room a (start a) (finish a)

-- the network has room from gap g to gap h
abbrev pub HaveRoom : Room → Order → ℕ → ℕ → Type 0
HaveRoom room order g h = (start : ℕ → ℕ) × (finish : ℕ → ℕ) × HaveSpans room order g h start finish

-- all positions of the network, in a sequence that keeps its order
pub record IsSequence (order : Order) (sequence : List ℕ) : Type 0 where
  pub within : (i : ℕ) → i < length sequence → get_or sequence i 0 < length order
  pub listed : (a : ℕ) → a < length order → (i : ℕ) × (i < length sequence) × (get_or sequence i 0 ≡ a)
  pub once : (i j : ℕ) → i < length sequence → j < length sequence → get_or sequence i 0 ≡ get_or sequence j 0 → i ≡ j
  pub ordered : (i j : ℕ) → i < length sequence → j < length sequence → is_before order (get_or sequence i 0) (get_or sequence j 0) ≡ true → i < j

-- the first places of a sequence up to one are all before position a, and from another on none is
pub record IsAhead (order : Order) (sequence : List ℕ) (a sure end : ℕ) : Type 0 where
  pub low : sure ≤ end
  pub own : (i : ℕ) → i < length sequence → get_or sequence i 0 ≡ a → end ≤ i
  pub all : (i : ℕ) → i < sure → is_before order (get_or sequence i 0) a ≡ true
  pub none : (i : ℕ) → end ≤ i → i < length sequence → is_before order (get_or sequence i 0) a ≡ false

-- for each position, where in the sequence those before it are
pub record AreAhead (order : Order) (sequence : List ℕ) (ahead : List (ℕ × ℕ)) : Type 0 where
  pub size : length ahead ≡ length order
  pub each : (a : ℕ) → a < length order → IsAhead order sequence a (get_or ahead a (0, 0)).0 (get_or ahead a (0, 0)).1

-- the first gap from g on by which all before position a have finished
pub record IsStart (order : Order) (finishes : List ℕ) (g a start : ℕ) : Type 0 where
  pub from : g ≤ start
  pub after : (b : ℕ) → is_before order b a ≡ true → get_or finishes b g ≤ start
  pub soonest : (k : ℕ) → g ≤ k → ((b : ℕ) → is_before order b a ≡ true → get_or finishes b g ≤ k) → start ≤ k

-- the first gap from g on by which all have finished
pub record IsGreatest (finishes : List ℕ) (g end : ℕ) : Type 0 where
  pub from : g ≤ end
  pub after : (b : ℕ) → get_or finishes b g ≤ end
  pub soonest : (k : ℕ) → g ≤ k → ((b : ℕ) → b < length finishes → get_or finishes b g ≤ k) → end ≤ k

-- position a has room from a start after all before it, and finishes nowhere earlier
pub record IsPlaced (room : Room) (order : Order) (n g : ℕ) (finishes : List ℕ) (a : ℕ) : Type 0 where
  pub start : ℕ
  pub from : g ≤ start
  pub after : (b : ℕ) → is_before order b a ≡ true → get_or finishes b g ≤ start
  pub within : get_or finishes a g ≤ n
  pub fits : room a start (get_or finishes a g)
  pub least : (h : ℕ) (other_start other_finish : ℕ → ℕ) → HaveSpans room order g h other_start other_finish → get_or finishes a g ≤ other_finish a

-- the first `placed` positions of the sequence are placed
pub record ArePlaced (room : Room) (order : Order) (sequence : List ℕ) (n g : ℕ) (finishes : List ℕ) (placed : ℕ) : Type 0 where
  pub size : length finishes ≡ length order
  pub within : placed ≤ length sequence
  pub each : (i : ℕ) → i < placed → IsPlaced room order n g finishes (get_or sequence i 0)
