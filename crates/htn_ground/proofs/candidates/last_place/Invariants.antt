use Rattle.htn_ground.proofs.Marked.{IsPlaced}
use Rattle.htn_ground.proofs.candidates.last_place.Given as goal

-- the place found so far
abbrev pub invariant-loop-place : goal.invariant-loop-place
invariant-loop-place l = IsPlaced l.terms l.parameter l.last
