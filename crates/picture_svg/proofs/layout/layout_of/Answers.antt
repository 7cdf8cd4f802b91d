use Rattle.std.proofs.Common.{◌+◌, get_or, length, ap, subst}
use Rattle.std.proofs.lemmas.Result.{IfOk-weaker}
use Rattle.picture_svg.specs.Columns.{AreColumns}
use Rattle.picture_svg.specs.Grid.{IsGridOf, actions_of, rows_of}
use Rattle.picture_svg.specs.Layout.{IsLayoutOf}
use Rattle.picture_svg.specs.Widths.{problem_width}
use Rattle.picture_svg.proofs.Measuring.{AreMeasured, grid_from, grid_made}
use Rattle.picture_svg.proofs.layout.layout_of.Goals as goal

pub returns : goal.returns
returns c =
    let caption = c.args.caption.now in
    let picture = c.args.picture.now in
    let widths = c.in_ok-widths.widths.items in
    let lefts = c.in_ok-lefts.lefts.items in
    let middles = c.in_ok-middles.middles.items in
    let columns =
    subst (λ ws. AreColumns (actions_of picture) (λ line. get_or ws line 0) (16 + problem_width caption + 34) (rows_of picture) lefts) c.as_slice.ensures.value c.in_ok-lefts.ensures in
    let are : AreMeasured caption picture widths lefts middles = record {
      widths_at = c.in_ok-widths.ensures;
      columns = columns;
      centred = c.in_ok-middles.ensures;
    } in
    let grid =
    grid_made caption picture (length c.actions.result.now) widths c.as_slice-2.result.now lefts c.as_slice-3.result.now middles c.as_slice-4.result.now (ap length c.actions.ensures.value)
    c.as_slice-2.ensures.value c.as_slice-3.ensures.value c.as_slice-4.ensures.value are in
    IfOk-weaker c.measured.result
    (λ layout. IsGridOf caption picture (grid_from (length c.actions.result.now) c.as_slice-2.result.now c.as_slice-3.result.now c.as_slice-4.result.now) → IsLayoutOf caption picture layout)
    (λ layout. IsLayoutOf caption picture layout) (λ layout is. is grid) c.measured.ensures
