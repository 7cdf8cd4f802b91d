-- When not all children of a line can have finished.
use Rattle.std.specs.Prelude.{ℕ, ◌≤◌, ◌<◌, List, length, get_or, ⊤}
use Rattle.htn_model.specs.Fits.{Fits}
use Rattle.plan_room.specs.Lines.{Lines}
use Rattle.plan_room.specs.declared.rooms.Finish.{Finish}
use Rattle.plan_room.specs.declared.rooms.Finish.TheVariants.{Unknown, Never, At}

-- each line alone can have finished by gap h, if it may start at gap g
abbrev pub AllEnd : Lines → List ℕ → ℕ → ℕ → Type 0
AllEnd l children g h = (g ≤ h) × ((c : ℕ) → c < length children → Fits l.naming l.problem l.states (l.plan_of (get_or children c 0)) g h)

-- not all of them can have finished before this gap
abbrev pub IsLower : Lines → List ℕ → ℕ → ℕ → Type 0
IsLower l children g end = (h : ℕ) → AllEnd l children g h → end ≤ h

-- where it can't be at all, it holds of no gap up to n
abbrev pub IsNoneBy : (ℕ → Type 0) → ℕ → Finish → Type 0
IsNoneBy Holds n (Unknown question) = ⊤
IsNoneBy Holds n Never = (k : ℕ) → k ≤ n → Holds k → ⊥
IsNoneBy Holds n (At h) = ⊤
