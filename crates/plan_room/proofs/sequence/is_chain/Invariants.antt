use Rattle.std.proofs.Common.{◌≡◌, ℕ, suc, ◌<◌, true, length}
use Rattle.htn_model.specs.Problem.{is_before}
use Rattle.plan_room.proofs.sequence.is_chain.Given as goal

abbrev pub invariant-loop-position : goal.invariant-loop-position
invariant-loop-position l = (a : ℕ) → a < l.position → suc a < length l.order → is_before l.order a (suc a) ≡ true
