use Rattle.std.proofs.Common.{◌∙◌, [], arith}
use Rattle.htn_task.proofs.Numbering.{AreNumbersOf-more}
use Rattle.htn_task.proofs.task_numbers.method_numbers.Goals as goal

pub loop-number-preserved : goal.loop-number-preserved
loop-number-preserved c =
    AreNumbersOf-more (λ d. d.name) [] c.args.methods.now c.loop-number.number c.loop-number.number c.index-methods-number.result c.as_bytes.result.now c.loop-number.numbers c.add.new.self
    c.loop-number-test.true c.index-methods-number.is (omega arith) (c.as_bytes.ensures.value ∙ c.name.ensures) c.loop-number.invariant c.in_ok-add.ensures
