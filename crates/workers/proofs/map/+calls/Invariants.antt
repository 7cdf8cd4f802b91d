-- Each call is of fewer.
use Prim.Native.Nat.{◌+◌, ◌*◌}
use Rattle.workers.proofs.map.+calls.Given as goal

abbrev pub decreases-call_each : goal.decreases-call_each
decreases-call_each g l = 2 * l.count

abbrev pub decreases-others : goal.decreases-others
decreases-others g l = 2 * l.last + 1
