use Rattle.std.proofs.Common.{◌+◌, ◌≤◌, ℕ, ◌≡◌, false, take, drop, sym, subst}
use Rattle.htn_task.specs.Literals.{literal_of, literals_of}
use Rattle.plan_lines.specs.Turns.{literals_truth}
use Rattle.plan_lines.proofs.Going.{none_left, parted}
use Rattle.plan_lines.proofs.history.Turns.onward.Goals as goal

pub returns-in_default : goal.returns-in_default
returns-in_default c =
    let literals = c.args.literals.now in
    let i = c.loop-literal.literal-index in
    let none = rw c.in_default.is at c.next_holding.ensures in
    subst (λ ls. (k : ℕ) → c.args.from ≤ k → k ≤ c.args.last → literals_truth c.args.self.now ls k ≡ false) (sym (parted literal_of literals i c.literal-item.result c.loop-literal-test.true c.literal-item.is))
    (none_left c.args.self.now (literals_of (take i literals)) (literals_of (drop (i + 1) literals)) (literal_of c.literal-item.result) c.args.from c.args.last c.loop-literal.gap c.loop-literal.invariant none)
