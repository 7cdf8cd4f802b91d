-- Networks that may have room between two gaps.
use Rattle.std.specs.Prelude.{◌≡◌, ◌+◌, ◌≤◌, ◌<◌, ℕ, cond, ltb, List, Option, Some, None, slice_get, ⊤}
use Rattle.htn_model.specs.State.{State}
use Rattle.htn_model.specs.Fits.{StepFits}
use Rattle.htn_model.specs.Problem.{Child, precondition, action, task}
use Rattle.plan_room.specs.declared.rooms.Finish.{Finish}
use Rattle.plan_room.specs.declared.rooms.Finish.TheVariants.{Unknown, Never, At}

-- a node that is a step holds in one of the gaps from the first to the last
abbrev pub HoldsWithin : (ℕ → State) → (first last : ℕ) → Child → Type 0
HoldsWithin states first last (precondition literals) = StepFits states literals first last
HoldsWithin states first last (action g) = ⊤
HoldsWithin states first last (task t) = ⊤

-- each step among the nodes does
abbrev pub StepsHold : (ℕ → State) → (first last : ℕ) → List Child → Type 0
StepsHold states first last nodes = (a : ℕ) (node : Child) → slice_get nodes a ≡ Some node → HoldsWithin states first last node

-- a finish where it is no later than a last gap
abbrev pub up_to : Finish → ℕ → Finish
up_to (Unknown question) last = Unknown question
up_to Never last = Never
up_to (At h) last = cond (ltb last h) Never (At h)

-- the finish that the best gap so far is
abbrev pub finish_of : Option ℕ → Finish
finish_of None = Never
finish_of (Some h) = At h

-- the last of n gaps that is before the best so far; none where that is no later than the least that there can be
abbrev pub IsLastBetter : Option ℕ → (least n : ℕ) → Option ℕ → Type 0
IsLastBetter None least n None = ⊥
IsLastBetter None least n (Some last) = last ≡ n
IsLastBetter (Some best) least n None = best ≤ least
IsLastBetter (Some best) least n (Some last) = (least < best) × (best ≡ last + 1)
