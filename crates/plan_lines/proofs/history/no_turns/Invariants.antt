use Rattle.std.proofs.Common.{◌≡◌, [], ℕ, get_or, length, map}
use Rattle.plan_lines.proofs.history.no_turns.Given as goal

abbrev pub invariant-loop-place : goal.invariant-loop-place
invariant-loop-place l = record { many : length l.all.items ≡ l.place; none : (i : ℕ) → get_or (map (λ turns. turns.items) l.all.items) i [] ≡ [] }
