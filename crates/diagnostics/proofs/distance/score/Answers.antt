use Rattle.std.proofs.Common.{arith}
use Rattle.diagnostics.proofs.Apart.{too_far}
use Rattle.diagnostics.proofs.distance.score.Goals as goal

pub returns-then-abs_diff-limit : goal.returns-then-abs_diff-limit
returns-then-abs_diff-limit c = too_far c.args.name.now c.args.candidate.now (omega (arith, c.if-abs_diff-limit.true, c.abs_diff.ensures, c.requires))
