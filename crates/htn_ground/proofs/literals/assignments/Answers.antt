use Rattle.std.proofs.Common.{◌∙◌, sym}
use Rattle.htn_ground.specs.Assigned.{lengthened}
use Rattle.htn_ground.proofs.Lists.{assignments_more}
use Rattle.htn_ground.proofs.literals.assignments.Goals as goal

pub loop-type_number-preserved : goal.loop-type_number-preserved
loop-type_number-preserved c =
    c.in_ok-choices-2.ensures
    ∙ (λ i. lengthened ((c.deref.ensures.value ∙ c.loop-type_number.invariant) i) (c.objects_of.ensures.value i))
    ∙ sym (assignments_more c.args.task.now c.args.types.now c.loop-type_number.type_number-index c.loop-type_number-test.true)
