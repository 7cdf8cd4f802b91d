-- Lines that have no room, whatever is beside them, and the deepest of these.
use Rattle.std.specs.Prelude.{◌≡◌, ◌⊎◌, ℕ, ◌≤◌, Option, Some, None}
use Rattle.htn_model.specs.PlanFile.{IsIn}
use Rattle.plan_room.specs.Frames.{IsLine}
use Rattle.plan_room.specs.Lines.{Lines, FileFits}
use Rattle.plan_room.specs.Seats.{LineFits, children_of}

-- everything below the line, or below the root line, has room somewhere in the whole plan
abbrev pub HasOwnRoom : Lines → ℕ → Type 0
HasOwnRoom l i = LineFits l i 0 l.actions

-- a line is listed among the children of a decomposition line, or among the roots
abbrev pub IsChildOf : Lines → (top line : ℕ) → Type 0
IsChildOf l top line = IsLine l top × IsIn line (children_of l top)

-- a line is below a decomposition line, or below the root line
pub data IsBelow (l : Lines) : (top line : ℕ) → Type 0 where
  child : (top line : ℕ) → IsChildOf l top line → IsBelow l top line
  further : (top child line : ℕ) → IsChildOf l top child → IsBelow l child line → IsBelow l top line

-- a decomposition line, or the root line, has no room, although each line below it has
pub record IsDeepest (l : Lines) (i : ℕ) : Type 0 where
  pub line : IsLine l i
  pub stands : (i ≡ l.count) ⊎ IsBelow l l.count i
  pub blocked : HasOwnRoom l i → ⊥
  pub below : (j : ℕ) → IsBelow l i j → HasOwnRoom l j

-- a child that is no action line and has no room; none where all have room
abbrev pub IsChildWithoutRoom : Lines → (top : ℕ) → Option ℕ → Type 0
IsChildWithoutRoom l top None = (c : ℕ) → IsIn c (children_of l top) → HasOwnRoom l c
IsChildWithoutRoom l top (Some c) = IsIn c (children_of l top) × (l.actions ≤ c) × (HasOwnRoom l c → ⊥)

-- ## Laws

-- what has room passes it on to each line below
abbrev pub RoomIsPassedOn : Lines → Type 0
RoomIsPassedOn l = (top line : ℕ) → IsBelow l top line → HasOwnRoom l top → HasOwnRoom l line

-- where a deepest line has no room the file has none
abbrev pub DeepestBlock : Lines → Type 0
DeepestBlock l = (i : ℕ) → IsDeepest l i → FileFits l → ⊥

-- where the file has no room there is a deepest line that has none, if of each line it is decided whether it has room
abbrev pub DeepestExist : Lines → Type 0
DeepestExist l = ((i : ℕ) → IsLine l i → HasOwnRoom l i ⊎ (HasOwnRoom l i → ⊥)) → (FileFits l → ⊥) → (i : ℕ) × IsDeepest l i
