use Rattle.plan_causes.proofs.Sets.{all_children_step}
use Rattle.plan_causes.proofs.structure.listed.Goals as goal

pub loop-line-preserved : goal.loop-line-preserved
loop-line-preserved c =
    all_children_step c.args.file.now.decompositions c.decompositions-line-items.result.now c.loop-line.line-index c.line-item.result c.children.result.now c.args.file.now.roots
    c.loop-line.ids.items c.extend_from_slice-in-loop-line.new.self.items c.decompositions-line-items.ensures.value c.loop-line-test.true c.line-item.is c.children.ensures
    c.loop-line.invariant c.in_ok-extend_from_slice-2.ensures.items
