use Rattle.std.proofs.Common.{◌≡◌, arith, inr, subst}
use Rattle.htn_order.specs.Closure.{Precedes}
use Rattle.hddl_uses.proofs.Circling.{step_back}
use Rattle.hddl_uses.proofs.cycles.comes_back.Goals as goal

pub returns-then-before-start : goal.returns-then-before-start
returns-then-before-start c =
    let pairs = c.args.pairs.now in
    let on : Precedes pairs c.in-Some.before c.args.start = step_back pairs c.args.start c.back.at c.in-Some.before c.in-Some.ensures c.back.invariant in
    let is : c.in-Some.before ≡ c.args.start = omega (arith, c.if-before-start.true) in
    λ _. (c.args.start, subst (λ b. Precedes pairs b c.args.start) is on)

pub back-preserved : goal.back-preserved
back-preserved c = inr (step_back c.args.pairs.now c.args.start c.back.at c.in-Some.before c.in-Some.ensures c.back.invariant)
