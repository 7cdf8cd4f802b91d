use Rattle.std.proofs.Common.{false, subst, sym, true}
use Rattle.std.specs.Bool.{beq}
use Rattle.htn_task.specs.Literals.{literal_of}
use Rattle.htn_task.specs.declared.literal.Literal.TheVariants.{Negative}
use Rattle.plan_lines.specs.Turns.{IsLastGap, literal_truth, truth}
use Rattle.plan_lines.proofs.Going.{beq_false, beq_true, last_alike}
use Rattle.plan_lines.proofs.history.Turns.last_gap.Goals as goal

pub returns-in-Positive : goal.returns-in-Positive
returns-in-Positive c =
    subst (λ l. IsLastGap (literal_truth c.args.self.now (literal_of l)) c.args.gap c.last_with.result) (sym c.in-Positive.is)
    (last_alike (λ k. beq (truth c.args.self.now c.in-Positive.atom k) true) (truth c.args.self.now c.in-Positive.atom) c.args.gap c.last_with.result
    (λ k. beq_true (truth c.args.self.now c.in-Positive.atom k)) c.last_with.ensures)

pub returns-in-Negative : goal.returns-in-Negative
returns-in-Negative c =
    subst (λ l. IsLastGap (literal_truth c.args.self.now (literal_of l)) c.args.gap c.last_with-in-Negative.result) (sym c.in-Negative.is)
    (last_alike (λ k. beq (truth c.args.self.now c.in-Negative.atom k) false) (λ k. literal_truth c.args.self.now (literal_of (Negative c.in-Negative.atom)) k) c.args.gap c.last_with-in-Negative.result
    (λ k. beq_false (truth c.args.self.now c.in-Negative.atom k)) c.last_with-in-Negative.ensures)
