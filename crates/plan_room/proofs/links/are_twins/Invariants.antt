use Rattle.std.proofs.Common.{◌≡◌, ℕ, ◌<◌}
use Rattle.htn_model.specs.Problem.{is_before}
use Rattle.plan_room.proofs.links.are_twins.Given as goal

abbrev pub invariant-loop-x : goal.invariant-loop-x
invariant-loop-x l = (y : ℕ) → y < l.x → (is_before l.order y l.a ≡ is_before l.order y l.b) × (is_before l.order l.a y ≡ is_before l.order l.b y)
