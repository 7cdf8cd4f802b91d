use Rattle.std.proofs.Common.{◌≡◌, ℕ, ◌<◌, false}
use Rattle.heuristics.specs.Places.{may_give_by}
use Rattle.heuristics.proofs.needs.Needs.is_ungiven_at.Given as goal

abbrev pub invariant-loop-position : goal.invariant-loop-position
invariant-loop-position l = (j : ℕ) → j < l.position → may_give_by l.self l.places l.order l.number l.at j ≡ false
