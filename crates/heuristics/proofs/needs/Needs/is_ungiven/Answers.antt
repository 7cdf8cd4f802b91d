use Rattle.std.proofs.Common.{◌∙◌, sym, arith}
use Rattle.htn_task.specs.Literals.{literal_of}
use Rattle.heuristics.proofs.Within.{given_by, ungiven_of_none}
use Rattle.heuristics.proofs.needs.Needs.is_ungiven.Goals as goal

pub returns-then-may_give : goal.returns-then-may_give
returns-then-may_give c =
    sym (given_by c.args.self.now c.args.children.now c.args.order.now (literal_of c.args.literal.now) c.args.at c.loop-position.position c.loop-position-test.true
    (sym c.may_give.ensures ∙ c.if-may_give.true))

pub returns : goal.returns
returns c =
    sym (ungiven_of_none c.args.self.now c.args.children.now c.args.order.now (literal_of c.args.literal.now) c.args.at
    (λ j low. c.loop-position.invariant j (omega (arith, low, c.loop-position-test.false))))
