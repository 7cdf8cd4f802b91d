use Rattle.std.proofs.Common.{map}
use Rattle.plan_lines.proofs.Listed.{FitSoFar}
use Rattle.plan_lines.proofs.fitting.instances_to_fit.Given as goal

-- those of the methods so far
abbrev pub invariant-loop-place : goal.invariant-loop-place
invariant-loop-place l = FitSoFar l.task l.ever l.goal l.method (map (λ c. c.now) l.children) (map (λ i. i.network) l.found.items) l.place
