use Rattle.std.proofs.Common.{arith}
use Rattle.heuristics.proofs.MarkWords.{marked_too}
use Rattle.heuristics.proofs.marks.are_marked_too.Goals as goal

pub returns : goal.returns
returns c = λ _. marked_too c.args.marks.now c.args.others.now (λ j low. c.loop-k.invariant j (omega (arith, low, c.loop-k-test.false)))
