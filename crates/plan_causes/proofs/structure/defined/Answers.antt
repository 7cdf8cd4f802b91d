use Rattle.htn_model.specs.PlanFile.{action_ids}
use Rattle.plan_causes.proofs.Sets.{action_ids_step, decomposition_ids_step}
use Rattle.plan_causes.proofs.structure.defined.Goals as goal

pub loop-line-preserved : goal.loop-line-preserved
loop-line-preserved c =
    action_ids_step c.args.file.now.actions c.actions-line-items.result.now c.loop-line.line-index c.line-item.result c.id.result c.loop-line.ids.items c.push.new.self.items
    c.actions-line-items.ensures.value c.loop-line-test.true c.line-item.is c.id.ensures c.loop-line.invariant c.in_ok-push.ensures.items

pub loop-line-2-preserved : goal.loop-line-2-preserved
loop-line-2-preserved c =
    decomposition_ids_step c.args.file.now.decompositions c.decompositions-line-items.result.now c.loop-line-2.line-index c.line-item-in-loop-line-2.result c.id-in-loop-line-2.result
    (action_ids c.args.file.now.actions) c.loop-line-2.ids.items c.push-in-loop-line-2.new.self.items c.decompositions-line-items.ensures.value c.loop-line-2-test.true
    c.line-item-in-loop-line-2.is c.id-in-loop-line-2.ensures c.loop-line-2.invariant c.in_ok-push-2.ensures.items
