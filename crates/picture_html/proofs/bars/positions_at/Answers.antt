use Rattle.std.proofs.Common.{◌<◌, ◌≤◌, ◌++◌, get_or, drop, sym, ap, ◌∙◌, arith}
use Rattle.plan_picture.specs.declared.row.Row.{Row}
use Rattle.plan_picture.specs.Seen.{seen, seen_all}
use Rattle.picture_html.specs.Runs.{own_rows, own_position, positions}
use Rattle.picture_html.proofs.Positions.{begun, one_row_more, past_end, past_row}
use Rattle.picture_html.proofs.bars.positions_at.Goals.{then-loop-next-test+else-rows-next, else-loop-next-test}
use Rattle.picture_html.proofs.bars.positions_at.Goals as goal

pub loop-next-init : goal.loop-next-init
loop-next-init c =
    let rows = c.args.rows.now in
    let r = c.index-rows-place.result in
    let s = c.index-rows-place-2.result in
    begun c.args.actions rows c.args.place (get_or rows c.args.place r).depth r s c.push_position.new.positions.items c.requires c.index-rows-place.is c.index-rows-place-2.is
    (ap (λ (x : Row). x.depth) (sym c.index-rows-place.is)) (c.in_ok-push_position.ensures ∙ ap (λ xs. xs ++ own_position c.args.actions (seen s)) c.new-found.ensures.items)

pub loop-next-preserved : goal.loop-next-preserved
loop-next-preserved c =
    let rows = c.args.rows.now in
    let depth = (get_or rows c.args.place c.index-rows-place.result).depth in
    let r = c.index-rows-next.result in
    let same = ap (λ (x : Row). x.depth) c.index-rows-next.is in
    let test = c.if-rows-next.true in
    let deep : depth < r.depth = omega arith in
    one_row_more c.args.actions rows depth c.loop-next.next r c.index-rows-next-in-loop-next.result c.loop-next.found.items c.push_position-in-loop-next.new.positions.items
    (positions c.args.actions (own_rows (drop c.args.place (seen_all rows)))) c.loop-next-test.true c.index-rows-next.is c.index-rows-next-in-loop-next.is deep c.loop-next.invariant
    c.in_ok-push_position-2.ensures

pub returns : goal.returns
returns c =
    let rows = c.args.rows.now in
    let depth = (get_or rows c.args.place c.index-rows-place.result).depth in
    let next = c.loop-next.next in
    let found = c.loop-next.found.items in
    let all = positions c.args.actions (own_rows (drop c.args.place (seen_all rows))) in
    elim c.loop-next-test.branch [
      | then-loop-next-test+else-rows-next w ↦ (let same = ap (λ (x : Row). x.depth) w.index-rows-next.is in let test = w.if-rows-next.false in
          let high : w.index-rows-next.result.depth ≤ depth = omega arith in
          past_row c.args.actions rows depth next w.index-rows-next.result found all w.loop-next-test.true w.index-rows-next.is high c.loop-next.invariant)
      | else-loop-next-test w ↦ past_end c.args.actions rows depth next found all w.loop-next-test.false c.loop-next.invariant
    ]
