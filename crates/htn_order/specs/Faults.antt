-- Where pairs have a cycle.
use Rattle.std.specs.Prelude.{ℕ, ◌<◌, ◌++◌, List, length, get_or}
use Rattle.htn_order.specs.Closure.{Precedes}
use Rattle.htn_order.specs.declared.closure.OrderFault.{OrderFault}
use Rattle.htn_order.specs.declared.closure.OrderFault.TheVariants.{Cycle, OutOfMemory}

-- along given pairs and these, the first position of the one at that index leads to itself
abbrev pub IsCycle : List (ℕ × ℕ) → List (ℕ × ℕ) → OrderFault → Type 0
IsCycle given pairs (Cycle k) = (k < length pairs) × Precedes (given ++ pairs) (get_or pairs k (0, 0)).0 (get_or pairs k (0, 0)).0
IsCycle given pairs OutOfMemory = ⊥

-- a cycle, or no memory
abbrev pub IsOnCycle : List (ℕ × ℕ) → List (ℕ × ℕ) → OrderFault → Type 0
IsOnCycle given pairs (Cycle k) = IsCycle given pairs (Cycle k)
IsOnCycle given pairs OutOfMemory = Unit {0}
