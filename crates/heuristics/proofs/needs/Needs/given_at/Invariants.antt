use Rattle.std.proofs.Common.{◌≡◌, ℕ, Option, take}
use Rattle.heuristics.specs.Places.{has_given, is_given_by}
use Rattle.heuristics.proofs.needs.Needs.given_at.Given as goal

-- what the nodes so far give
abbrev pub invariant-loop-place : goal.invariant-loop-place
invariant-loop-place l = (number : Option ℕ) → has_given l.given number ≡ is_given_by l.self (take l.place-index l.places) number
