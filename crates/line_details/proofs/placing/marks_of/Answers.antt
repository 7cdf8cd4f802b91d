use Rattle.std.proofs.Common.{get_or, ◌<◌, length, ◌∙◌, true, arith}
use Rattle.std.proofs.lemmas.List.{length-set}
use Rattle.line_details.proofs.Seen.{one_marked}
use Rattle.line_details.proofs.placing.marks_of.Goals as goal

pub loop-position-preserved : goal.loop-position-preserved
loop-position-preserved c =
    let marks = c.loop-position.marks.items in
    let positions = c.args.positions.now in
    let n = c.loop-position.position-index in
    let size = c.loop-position.invariant.size in
    let test = c.if-position-count.false in
    let low : get_or positions n 0 < length marks = omega arith in
    record {
      met = one_marked marks positions n c.index.result.now c.loop-position.invariant.met c.loop-position-test.true low c.index.ensures c.if-index.false;
      size = length-set marks (get_or positions n 0) true ∙ size;
    }
