use Rattle.std.proofs.Common.{◌≡◌, Some, map}
use Rattle.htn_ground.proofs.methods.live_methods_of.Given as goal

-- the numbers so far are known
abbrev pub invariant-loop-number : goal.invariant-loop-number
invariant-loop-number l = map (λ p. (Some p.0, p.1)) l.found.items ≡ l.yielded
