use Rattle.htn_plan.proofs.Forests.{child_found}
use Rattle.htn_plan.proofs.actions.child_at.Goals as goal

pub returns : goal.returns
returns c = λ numbers. let h = c.get.ensures.lookup in child_found numbers c.args.nodes.now c.args.position c.get.result _ h.1 h.3
