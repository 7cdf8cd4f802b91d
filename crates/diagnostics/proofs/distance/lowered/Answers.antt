use Rattle.std.proofs.Common.{arith}
use Rattle.diagnostics.proofs.Lowered.{lowered-more}
use Rattle.diagnostics.proofs.distance.lowered.Goals as goal

pub loop-byte-preserved : goal.loop-byte-preserved
loop-byte-preserved c = grind (arith, c.in_ok-push.ensures.bytes, lowered-more c.args.name.now c.loop-byte.byte-index c.loop-byte-test.true, c.loop-byte.invariant, c.to_ascii_lowercase.ensures.value)
