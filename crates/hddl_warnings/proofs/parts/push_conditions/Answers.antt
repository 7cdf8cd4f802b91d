use Rattle.std.proofs.Common.{subst}
use Rattle.std.proofs.lemmas.List.{take_all}
use Rattle.hddl_warnings.specs.Parts.{AddsEach}
use Rattle.hddl_warnings.proofs.Folding.{AddsEach-nothing, AddsEach-next, AddsConditions-each}
use Rattle.hddl_warnings.proofs.parts.push_conditions.Goals as goal

pub loop-condition-init : goal.loop-condition-init
loop-condition-init c = AddsEach-nothing c.args.parts.now

pub loop-condition-preserved : goal.loop-condition-preserved
loop-condition-preserved c =
    AddsEach-next c.args.parts.now c.loop-condition.parts c.push_condition.new.parts c.args.conditions.now c.loop-condition.condition-index c.condition-item.result
    c.loop-condition-test.true c.condition-item.is c.loop-condition.invariant c.in_ok-push_condition.ensures

pub returns : goal.returns
returns c =
    AddsConditions-each c.args.parts.now c.loop-condition.parts c.args.conditions.now
    (subst (λ cs. AddsEach c.args.parts.now c.loop-condition.parts cs) (take_all c.loop-condition.condition-index c.args.conditions.now c.loop-condition-test.false)
    c.loop-condition.invariant)
