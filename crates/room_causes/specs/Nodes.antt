-- The node at a position of a network, when it can be done, and which actions are below a line.
use Rattle.std.specs.Prelude.{◌≡◌, ◌⊎◌, ℕ, ◌+◌, ◌≤◌, ◌<◌, List, Option, Some, None, false, slice_get, ⊤}
use Rattle.htn_model.specs.Fits.{child_of}
use Rattle.htn_model.specs.Literal.{Literal, holds, literal_holds}
use Rattle.htn_model.specs.PlanFile.{IsIn}
use Rattle.htn_model.specs.Problem.{Network, precondition}
use Rattle.plan_room.specs.Deepest.{IsBelow}
use Rattle.plan_room.specs.Lines.{Lines}
use Rattle.plan_room.specs.Seats.{LineFits, children_of}
use Rattle.room_causes.specs.declared.actions.Span.{Span}
use Rattle.room_causes.specs.declared.cause.Node.{Node}
use Rattle.room_causes.specs.declared.cause.Node.TheVariants.{Line, Precondition}

-- an action line is this line or below it
abbrev pub HasAction : Lines → (line action : ℕ) → Type 0
HasAction l line action = (action < l.actions) × ((action ≡ line) ⊎ IsBelow l line action)

-- the first of these actions, and the last
abbrev pub IsFirstAction : Lines → (line action : ℕ) → Type 0
IsFirstAction l line action = HasAction l line action × ((other : ℕ) → HasAction l line other → action ≤ other)

abbrev pub IsLastAction : Lines → (line action : ℕ) → Type 0
IsLastAction l line action = HasAction l line action × ((other : ℕ) → HasAction l line other → other ≤ action)

-- the first and the last of these actions, or that there are none
abbrev pub IsSpan : Lines → (line : ℕ) → Option Span → Type 0
IsSpan l line None = (action : ℕ) → HasAction l line action → ⊥
IsSpan l line (Some span) = IsFirstAction l line span.first × IsLastAction l line span.last

-- a span with one action more
abbrev pub IsWidened : Option Span → (action : ℕ) → Span → Type 0
IsWidened None action span = (span.first ≡ action) × (span.last ≡ action)
IsWidened (Some old) action span =
    ((span.first ≡ old.first) ⊎ (span.first ≡ action)) × ((span.last ≡ old.last) ⊎ (span.last ≡ action))
    × (span.first ≤ old.first) × (span.first ≤ action) × (old.last ≤ span.last) × (action ≤ span.last)

-- a child of the line, whose task is that of the network's node there
abbrev pub IsChildAt : Lines → (top : ℕ) → Network → (position line : ℕ) → Type 0
IsChildAt l top network a line = IsIn line (children_of l top) × (slice_get network.children a ≡ Some (child_of (l.plan_of line)))

-- the node at the position is such a child, or a precondition with these literals
abbrev pub StandsAt : Lines → (top : ℕ) → Network → (position : ℕ) → Node → Type 0
StandsAt l top network a (Line line) = IsChildAt l top network a line
StandsAt l top network a (Precondition literals) = slice_get network.children a ≡ Some (precondition literals)

-- literals hold in none of the gaps from one to another
abbrev pub NeverHold : Lines → List Literal → (from until : ℕ) → Type 0
NeverHold l literals from until = (k : ℕ) → from ≤ k → k ≤ until → holds (l.states k) literals ≡ false

-- the node can't be done before a gap
abbrev pub IsNotBefore : Lines → Node → ℕ → Type 0
IsNotBefore l (Line line) gap = (h : ℕ) → LineFits l line 0 h → gap ≤ h
IsNotBefore l (Precondition literals) gap = (k : ℕ) → k < gap → holds (l.states k) literals ≡ false

-- the last action below the node is just before a gap
abbrev pub IsJustBefore : Lines → Node → (gap : ℕ) → (action : ℕ) → Type 0
IsJustBefore l (Line line) gap action = IsLastAction l line action × (gap ≡ action + 1)
IsJustBefore l (Precondition literals) gap action = ⊥

-- the literal at this place is false in the gaps from one to another
abbrev pub IsFalseLiteral : Lines → List Literal → (from until : ℕ) → (place : ℕ) → Type 0
IsFalseLiteral l literals from until place =
    (literal : Literal) × (slice_get literals place ≡ Some literal) × ((k : ℕ) → from ≤ k → k ≤ until → literal_holds (l.states k) literal ≡ false)

-- a child is one of the lines
abbrev pub IsLowNode : Lines → Node → Type 0
IsLowNode l (Line line) = line < l.count
IsLowNode l (Precondition literals) = ⊤
