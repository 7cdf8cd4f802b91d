use Rattle.htn_ground.specs.Views.{child_view}
use Rattle.htn_ground.specs.declared.child.Child.{Child as Node}
use Rattle.heuristics.specs.CheckedNeeds.{GivesWithin}
use Rattle.heuristics.proofs.MarkLists.{all_more, all_taken}
use Rattle.heuristics.proofs.needs.Needs.give_within.Goals as goal

pub loop-child-preserved : goal.loop-child-preserved
loop-child-preserved c =
    all_more (λ (x : Node). GivesWithin c.args.self.now (child_view x) c.args.row.now) c.args.children.now c.loop-child.child-index c.child-item.result c.loop-child-test.true c.child-item.is c.loop-child.invariant
    (c.gives_within.ensures c.if-not-gives_within.false)

pub returns : goal.returns
returns c = λ _.
    all_taken (λ (x : Node). GivesWithin c.args.self.now (child_view x) c.args.row.now) c.args.children.now c.loop-child.child-index c.loop-child-test.false c.loop-child.invariant
