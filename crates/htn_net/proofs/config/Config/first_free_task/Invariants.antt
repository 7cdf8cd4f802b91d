use Rattle.std.proofs.Common.{◌≡◌, ◌&&◌, ℕ, ◌<◌, ◌-◌, false, length}
use Rattle.htn_model.specs.Choice.{child_of, is_free}
use Rattle.htn_model.specs.Problem.{is_before, is_compound}
use Rattle.htn_net.proofs.config.Config.first_free_task.Given as goal

-- no position before this one has a free compound task
abbrev pub invariant-loop-position : goal.invariant-loop-position
invariant-loop-position l =
    (j : ℕ) → j < l.from → (is_compound (child_of l.self.open_nodes j) && is_free (length l.self.open_nodes) (is_before l.self.order) j) ≡ false

abbrev pub decreases-loop-position : goal.decreases-loop-position
decreases-loop-position l = length l.self.open_nodes - l.from
