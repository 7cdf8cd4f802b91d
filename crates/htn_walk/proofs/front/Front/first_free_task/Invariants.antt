use Rattle.std.proofs.Common.{◌≡◌, ℕ, ◌<◌, ◌-◌, false, length}
use Rattle.htn_walk.proofs.First.{is_free_task}
use Rattle.htn_walk.proofs.front.Front.first_free_task.Given as goal

-- no position before this one has a free compound task
abbrev pub invariant-loop-position : goal.invariant-loop-position
invariant-loop-position l = (j : ℕ) → j < l.from → is_free_task l.self.open_nodes l.self.order j ≡ false

abbrev pub decreases-loop-position : goal.decreases-loop-position
decreases-loop-position l = length l.self.open_nodes - l.from
