use Rattle.std.proofs.Common.{◌++◌, get_or, option_map, slice_get, sym, ap, ◌∙◌}
use Rattle.plan_picture.specs.declared.row.Row.{Row}
use Rattle.plan_picture.specs.Seen.{seen_all}
use Rattle.picture_svg.specs.Svg.{node_in, nodes}
use Rattle.picture_svg.proofs.Nodes.{nodes_more}
use Rattle.picture_svg.proofs.as_svg.say_nodes.Goals as goal

pub loop-place-preserved : goal.loop-place-preserved
loop-place-preserved c =
    let mark = c.args.caption.now.mark in
    let details = option_map (λ d. d.now) c.args.details in
    let file = c.args.file.now in
    let rows = c.args.rows.now in
    let boxes = c.args.boxes.now in
    let place = c.loop-place.place in
    let row = c.index-rows-place.result in
    let before = c.loop-place.out.items in
    let more =
    c.in_ok-say_node_in.ensures ∙ ap (λ a. before ++ node_in mark details file (get_or rows place row).line a) c.box_at-area.ensures
    ∙ ap (λ (r : Row). before ++ node_in mark details file r.line (slice_get boxes place)) (sym c.index-rows-place.is) in
    nodes_more mark details file rows boxes place row before c.say_node_in.new.out.items (c.args.out.now.items ++ nodes mark details file (seen_all rows) boxes) c.loop-place-test.true
    c.index-rows-place.is c.loop-place.invariant more
