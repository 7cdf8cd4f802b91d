use Rattle.std.proofs.Common.{◌≡◌, ◌-◌, ◌<◌, length, get_or, ◌∙◌, arith}
use Rattle.std.proofs.lemmas.List.{length-set, get_or_default}
use Rattle.picture_html.proofs.Positions.{row_in}
use Rattle.picture_html.proofs.Found.{found_more}
use Rattle.picture_html.proofs.bars.bars_of.Goals as goal

pub index_mut-requires : goal.index_mut-requires
index_mut-requires c =
    let rows = c.args.rows.now in
    let at = c.loop-left.left - 1 in
    let test = c.loop-left-test.true in
    let within = c.loop-left.invariant.within in
    let low : at < length rows = omega arith in
    let few = c.requires.within (get_or rows at c.index-rows-left.result).line (row_in rows at c.index-rows-left.result low) in
    let size = c.loop-left.invariant.size in
    omega arith

pub loop-left-preserved : goal.loop-left-preserved
loop-left-preserved c =
    let rows = c.args.rows.now in
    let left = c.loop-left.left in
    let at = left - 1 in
    let row = get_or rows at c.index-rows-left.result in
    let bars = c.loop-left.bars.items in
    let found = c.in_ok-found.found in
    let test = c.loop-left-test.true in
    let within = c.loop-left.invariant.within in
    let low : at < length rows = omega arith in
    let is : row ≡ get_or rows at row = get_or_default rows at c.index-rows-left.result row low in
    let few = c.requires.within row.line (row_in rows at c.index-rows-left.result low) in
    let size = c.loop-left.invariant.size in
    let slot : row.line < length bars = omega arith in
    record {
      within = omega arith;
      size = length-set bars row.line found ∙ size;
      so_far = found_more c.args.actions rows left row bars found test within is slot c.requires.once c.in_ok-found.ensures c.loop-left.invariant.so_far;
    }
