use Rattle.std.proofs.Common.{◌≡◌, false, take}
use Rattle.htn_ground.specs.Search.{is_ruled_out_so_far}
use Rattle.htn_ground.proofs.fixed.is_ruled_out.Given as goal

-- no literal so far is false
abbrev pub invariant-loop-literal : goal.invariant-loop-literal
invariant-loop-literal l = is_ruled_out_so_far l.state (take l.literal-index l.literals) l.values ≡ false
