-- What is in the way of the lines below one.
use Rattle.std.specs.Prelude.{◌≡◌, ℕ, ◌≤◌, ◌<◌, List, Option, Some, None, MatchOption, true, slice_get, ⊤}
use Rattle.htn_model.specs.Instance.{Instance}
use Rattle.htn_model.specs.PlanFile.{IsIn}
use Rattle.htn_model.specs.Problem.{Network, is_before, precondition}
use Rattle.plan_room.specs.Deepest.{IsDeepest}
use Rattle.plan_room.specs.Lines.{Lines, networks_of}
use Rattle.plan_room.specs.Seats.{IsOneOf, LineFits}
use Rattle.room_causes.specs.Nodes.{HasAction, IsChildAt, IsFirstAction, IsFalseLiteral, IsJustBefore, IsNotBefore, NeverHold, StandsAt}
use Rattle.room_causes.specs.declared.cause.Unmet.{Unmet}
use Rattle.room_causes.specs.declared.cause.OrderConflict.{OrderConflict}
use Rattle.room_causes.specs.declared.cause.Conflict.{Conflict}
use Rattle.room_causes.specs.declared.cause.Conflict.TheVariants.{Precondition, Order}
use Rattle.room_causes.specs.declared.cause.RoomCause.{RoomCause}

-- a precondition of an instance that holds in no gap from one to another
pub record IsUnmetIn (l : Lines) (instance : Instance) (from until : ℕ) (unmet : Unmet) : Type 0 where
  pub values : unmet.values ≡ instance.values
  pub position : ℕ
  pub step : slice_get instance.network.children position ≡ Some (precondition unmet.literals)
  pub start : unmet.from ≡ from
  pub stop : unmet.until ≡ until
  pub never : NeverHold l unmet.literals from until
  pub literal : MatchOption unmet.literal ⊤ (IsFalseLiteral l unmet.literals from until)

-- such a precondition of an instance of the line, from a gap on to the last
abbrev pub IsUnmet : Lines → (line from : ℕ) → Unmet → Type 0
IsUnmet l line from unmet = (instance : Instance) × IsOneOf l line instance.network × IsUnmetIn l instance from l.actions unmet

-- the line has no room from a gap on
abbrev pub IsBlockedFrom : Lines → (line gap : ℕ) → Type 0
IsBlockedFrom l line gap = (h : ℕ) → h ≤ l.actions → LineFits l line gap h → ⊥

-- the first action below the line, where it comes before a gap
abbrev pub IsEarly : Lines → (line gap : ℕ) → Option ℕ → Type 0
IsEarly l line gap None = (action : ℕ) → HasAction l line action → gap ≤ action
IsEarly l line gap (Some action) = IsFirstAction l line action × (action < gap)

-- in an instance of the line one node is before another, which has no room from the gap on before which the first
-- can't be done
pub record IsOrderConflict (l : Lines) (line : ℕ) (c : OrderConflict) : Type 0 where
  pub instance : Instance
  pub is_one : IsOneOf l line instance.network
  pub values : c.values ≡ instance.values
  pub ordered : is_before instance.network.order c.before c.after ≡ true
  pub first : StandsAt l line instance.network c.before c.first
  pub second : IsChildAt l line instance.network c.after c.second
  pub not_before : IsNotBefore l c.first c.from
  pub blocked : IsBlockedFrom l c.second c.from
  -- the actions and the precondition that show the conflict, if there are some
  pub late : MatchOption c.late ((action : ℕ) → IsJustBefore l c.first c.from action → ⊥) (IsJustBefore l c.first c.from)
  pub early : IsEarly l c.second c.from c.early
  pub unmet : MatchOption c.unmet ⊤ (IsUnmet l c.second c.from)

-- a conflict of one of both kinds
abbrev pub IsConflict : Lines → ℕ → Conflict → Type 0
IsConflict l line (Precondition unmet) = IsUnmet l line 0 unmet
IsConflict l line (Order conflict) = IsOrderConflict l line conflict

-- the number of a line; the root line has the one past all lines
abbrev pub number_of : Lines → Option ℕ → ℕ
number_of l None = l.count
number_of l (Some line) = line

-- the line is a deepest one without room, and the conflict is one of its
pub record IsRoomCause (l : Lines) (cause : RoomCause) : Type 0 where
  pub line : MatchOption cause.line ⊤ (λ line. line < l.count)
  pub deepest : IsDeepest l (number_of l cause.line)
  pub conflict : MatchOption cause.conflict ⊤ (IsConflict l (number_of l cause.line))

-- the instances are ones that the line may stand for
abbrev pub AreOnesOf : Lines → ℕ → List Instance → Type 0
AreOnesOf l line instances = (network : Network) → IsIn network (networks_of instances) → IsOneOf l line network
