-- Each call is of a shorter slice.
use Prim.Native.Nat.{◌+◌, ◌*◌}
use lib.ListN.{length}
use Rattle.workers.proofs.change.+parts.Given as goal

abbrev pub decreases-in_parts : goal.decreases-in_parts
decreases-in_parts g l = 4 * length l.s.now

abbrev pub decreases-part_and_rest : goal.decreases-part_and_rest
decreases-part_and_rest g l = 4 * length l.rest.now + 2

abbrev pub decreases-part_and_rest-others : goal.decreases-part_and_rest-others
decreases-part_and_rest-others g l = 4 * length l.rest.now + 1
