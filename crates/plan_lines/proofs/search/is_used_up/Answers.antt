use Rattle.std.proofs.Common.{arith}
use Rattle.plan_lines.proofs.Searched.{used_up}
use Rattle.plan_lines.proofs.search.is_used_up.Goals as goal

pub returns : goal.returns
returns c = used_up c.args.children.now c.args.left.now c.requires (λ k g below at. c.loop-number.invariant k g (omega (arith, below, c.loop-number-test.false)) at)
