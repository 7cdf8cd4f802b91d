use Rattle.std.proofs.Common.{ap, ◌∙◌, arith}
use Rattle.plan_text.specs.Forest.{lists_of}
use Rattle.plan_text.specs.Reached.{children_at}
use Rattle.picture_svg.specs.Grid.{own_places}
use Rattle.picture_svg.proofs.Rows.{places_more, places_few}
use Rattle.picture_svg.proofs.middles.place_count.Goals as goal

pub loop-left-preserved : goal.loop-left-preserved
loop-left-preserved c =
    let children = children_at c.args.actions (lists_of c.args.children.now) in
    let few = c.loop-left.invariant.few in
    let some = c.loop-left-test.true in
    let rows = c.args.rows.now in
    let left = c.loop-left.left in
    let d = c.index-rows-left.result in
    let own = c.own_places-count.ensures ∙ ap own_places c.children_at.ensures in
    let one = places_few children rows left d c.own_places-count.result own in
    record {
      few = omega arith;
      so_far = places_more children rows left d c.loop-left.count c.own_places-count.result some (omega arith) c.loop-left.invariant.so_far own;
    }
