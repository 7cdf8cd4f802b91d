use Rattle.std.proofs.Common.{◌∙◌, [], arith, subst, take}
use Rattle.std.proofs.lemmas.List.{map-id, take_all}
use Rattle.htn_task.specs.Numbers.{AreNumbersOf}
use Rattle.htn_task.proofs.Numbering.{AreNumbersOf-more}
use Rattle.htn_task.proofs.task_numbers.object_numbers.Goals as goal

pub loop-number-preserved : goal.loop-number-preserved
loop-number-preserved c =
    AreNumbersOf-more (λ name. name) [] c.args.objects.now c.loop-number.number c.loop-number.number c.index-objects-number.result c.as_bytes.result.now c.loop-number.numbers c.add.new.self
    c.loop-number-test.true c.index-objects-number.is (omega arith) c.as_bytes.ensures.value c.loop-number.invariant c.in_ok-add.ensures

pub returns : goal.returns
returns c =
    subst (λ names. AreNumbersOf names c.loop-number.numbers)
    (map-id (take c.loop-number.number c.args.objects.now) ∙ take_all c.loop-number.number c.args.objects.now c.loop-number-test.false)
    c.loop-number.invariant
