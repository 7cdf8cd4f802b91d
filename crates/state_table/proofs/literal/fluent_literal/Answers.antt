use Rattle.std.proofs.Common.{◌∙◌, ap, sym}
use Rattle.std.specs.Bool.{beq}
use Rattle.state_table.specs.Bits.{has}
use Rattle.state_table.proofs.Literals.{beq_false, beq_true}
use Rattle.state_table.proofs.literal.fluent_literal.Goals as goal

pub returns-then-is_positive : goal.returns-then-is_positive
returns-then-is_positive c = λ words. beq_true (has words c.args.number) ∙ ap (λ b. beq b (has words c.args.number)) (sym c.if-is_positive.true)

pub returns-else-is_positive : goal.returns-else-is_positive
returns-else-is_positive c = λ words. beq_false (has words c.args.number) ∙ ap (λ b. beq b (has words c.args.number)) (sym c.if-is_positive.false)
