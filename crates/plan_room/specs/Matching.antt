-- The search among the matchings of a network's positions to choices: a child's line for a subtask, and one of its own
-- for a step.
use Rattle.std.specs.Prelude.{◌≡◌, ℕ, ◌+◌, ◌≤◌, ◌<◌, ◌⊎◌, Bool, true, false, List, length, get_or, Option, Some, None, ⊤}
use Rattle.htn_model.specs.Problem.{Order, IsSquare, is_before}
use Rattle.plan_room.specs.Placing.{Room, IsFirst, HaveRoom, IsSequence, IsStart, ArePlaced}

-- a network's positions, the choices for them, and where each choice has room
pub record Seating : Type 1 where
  pub order : Order
  pub sequence : List ℕ
  -- the network may start at this gap
  pub gap : ℕ
  pub last : ℕ
  pub count : ℕ
  pub suits : ℕ → ℕ → Bool
  pub room : Room

-- each position has a choice that suits it, and none has that of another
pub record IsAssignment (suits : ℕ → ℕ → Bool) (count size : ℕ) (m : ℕ → ℕ) : Type 0 where
  pub low : (a : ℕ) → a < size → m a < count
  pub suited : (a : ℕ) → a < size → suits a (m a) ≡ true
  pub apart : (a b : ℕ) → a < size → b < size → m a ≡ m b → a ≡ b

-- each position has a choice of its own that suits it
abbrev pub IsSeated : Seating → (ℕ → ℕ) → Type 0
IsSeated w m = IsAssignment w.suits w.count (length w.order) m

-- with these choices the network has room up to gap h
abbrev pub HasRoomWith : Seating → (ℕ → ℕ) → ℕ → Type 0
HasRoomWith w m h = HaveRoom (λ a. w.room (m a)) w.order w.gap h

-- in some matching the network has room up to gap h
abbrev pub HasMatchedRoom : Seating → ℕ → Type 0
HasMatchedRoom w h = (m : ℕ → ℕ) × IsSeated w m × HasRoomWith w m h

-- a choice with room has it forwards, and from earlier gaps too; a choice that suits some position is used by each
-- matching; and positions that one choice suits have all their choices in common
pub record IsSeating (w : Seating) : Type 0 where
  pub sequence : IsSequence w.order w.sequence
  pub square : IsSquare (length w.order) w.order
  pub within : w.gap ≤ w.last
  pub forward : (c x y : ℕ) → w.room c x y → x ≤ y
  pub sooner : (c x y x' : ℕ) → x' ≤ x → w.room c x y → w.room c x' y
  pub used : (m : ℕ → ℕ) → IsSeated w m → (a c : ℕ) → a < length w.order → c < w.count → w.suits a c ≡ true → (b : ℕ) × (b < length w.order) × (m b ≡ c)
  pub alike : (a b c d : ℕ) → w.suits a c ≡ true → w.suits b c ≡ true → w.suits a d ≡ true → w.suits b d ≡ true

-- two positions have the same positions before them, and the same after them
abbrev pub AreTwins : Order → ℕ → ℕ → Type 0
AreTwins order a b = ((x : ℕ) → is_before order x a ≡ is_before order x b) × ((x : ℕ) → is_before order a x ≡ is_before order b x)

-- what follows the second choice can't be the first
abbrev pub IsBlockedBy : Seating → ℕ → ℕ → Type 0
IsBlockedBy w c d = (x y x' y' : ℕ) → w.room d x y → w.room c x' y' → y ≤ x' → ⊥

-- the later positions that have choices in common with this one are its twins, or come after it, where later choices
-- block each earlier one
abbrev pub IsFixed : Seating → ℕ → Type 0
IsFixed w a = (i j c : ℕ) → i < j → j < length w.sequence → get_or w.sequence i 0 ≡ a → w.suits a c ≡ true → w.suits (get_or w.sequence j 0) c ≡ true
    → AreTwins w.order a (get_or w.sequence j 0)
    ⊎ ((is_before w.order a (get_or w.sequence j 0) ≡ true) × ((d : ℕ) → c < d → w.suits a d ≡ true → IsBlockedBy w c d))

-- no choice between the two suits the position, unless it is fixed
pub record IsNextChoice (w : Seating) (a c next : ℕ) : Type 0 where
  pub more : c < next
  pub within : next ≤ w.count
  pub between : (d : ℕ) → c < d → d < next → w.suits a d ≡ true → IsFixed w a

-- the first places of the sequence have the choices that are listed
abbrev pub AgreeBelow : List ℕ → List ℕ → ℕ → (ℕ → ℕ) → Type 0
AgreeBelow sequence chosen depth m = (i : ℕ) → i < depth → m (get_or sequence i 0) ≡ get_or chosen i 0

-- the matching is still to come: at the first place where it isn't as chosen it has a later choice
pub record IsToCome (sequence chosen : List ℕ) (depth next : ℕ) (m : ℕ → ℕ) : Type 0 where
  pub place : ℕ
  pub low : place ≤ depth
  pub same : AgreeBelow sequence chosen place m
  pub later : place < depth → get_or chosen place 0 < m (get_or sequence place 0)
  pub here : place ≡ depth → next ≤ m (get_or sequence place 0)

-- the best gap so far is no later
abbrev pub IsBeaten : Option ℕ → ℕ → Type 0
IsBeaten None h = ⊥
IsBeaten (Some best) h = best ≤ h

-- what was found is within a bound and holds
abbrev pub IsFound : (ℕ → Type 0) → ℕ → Option ℕ → Type 0
IsFound Holds n None = ⊤
IsFound Holds n (Some best) = (best ≤ n) × Holds best

-- one of the first choices is this one
abbrev pub IsTaken : List ℕ → ℕ → ℕ → Type 0
IsTaken chosen depth choice = (i : ℕ) × (i < depth) × (get_or chosen i 0 ≡ choice)

-- the first gap from g on by which the first places of the sequence have finished
pub record IsTop (sequence finishes : List ℕ) (g depth top : ℕ) : Type 0 where
  pub from : g ≤ top
  pub after : (j : ℕ) → j < depth → get_or finishes (get_or sequence j 0) g ≤ top
  pub soonest : (k : ℕ) → g ≤ k → ((j : ℕ) → j < depth → get_or finishes (get_or sequence j 0) g ≤ k) → top ≤ k

module _ (w : Seating) where
  -- what was searched so far, and the best of it
  pub record IsSearched (chosen finishes : List ℕ) (depth next : ℕ) (best : Option ℕ) : Type 0 where
    pub size : length chosen ≡ length w.sequence
    pub within : depth ≤ length w.sequence
    pub small : next ≤ w.count
    pub low : (i : ℕ) → i < depth → get_or chosen i 0 < w.count
    pub suited : (i : ℕ) → i < depth → w.suits (get_or w.sequence i 0) (get_or chosen i 0) ≡ true
    pub apart : (i j : ℕ) → i < depth → j < depth → get_or chosen i 0 ≡ get_or chosen j 0 → i ≡ j
    -- whatever the later choices are, the first places are placed as early as can be
    pub placed : (i : ℕ) → i ≤ depth → (m : ℕ → ℕ) → AgreeBelow w.sequence chosen i m → ArePlaced (λ a. w.room (m a)) w.order w.sequence w.last w.gap finishes i
    pub found : IsFound (HasMatchedRoom w) w.last best
    -- no other matching finishes earlier than the best, but those that are to come
    pub tried : (m : ℕ → ℕ) → IsSeated w m → (h : ℕ) → h ≤ w.last → HasRoomWith w m h → IsBeaten best h ⊎ IsToCome w.sequence chosen depth next m

  -- which choices are taken, and by which gap the first places have finished
  pub record IsNoted (chosen finishes highs : List ℕ) (taken : List Bool) (depth : ℕ) : Type 0 where
    pub flags : length taken ≡ w.count
    pub noted : (c : ℕ) → get_or taken c false ≡ true → IsTaken chosen depth c
    pub kept : (i : ℕ) → i < depth → get_or taken (get_or chosen i 0) false ≡ true
    pub sizes : length highs ≡ length w.sequence + 1
    pub tops : (i : ℕ) → i ≤ depth → IsTop w.sequence finishes w.gap i (get_or highs i 0)

  -- the next choice suits the next position and isn't taken; from the start on it finishes there, and no earlier
  pub record IsFirstPlaced (chosen finishes : List ℕ) (depth next position finish : ℕ) : Type 0 where
    pub low : depth < length w.sequence
    pub here : position ≡ get_or w.sequence depth 0
    pub less : next < w.count
    pub suited : w.suits position next ≡ true
    pub free : IsTaken chosen depth next → ⊥
    pub start : ℕ
    pub is_start : IsStart w.order finishes w.gap position start
    pub first : IsFirst (w.room next start) w.last finish
