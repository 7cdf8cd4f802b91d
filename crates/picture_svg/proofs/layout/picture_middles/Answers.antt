use Rattle.picture_svg.proofs.Pictured.{rows_after, rows_within, rows_once}
use Rattle.picture_svg.proofs.layout.picture_middles.Goals as goal

pub middles_of-requires-clause-after : goal.middles_of-requires-clause-after
middles_of-requires-clause-after c =
    rows_after c.args.picture.now c.requires c.actions-actions.result.now c.as_slice-children.result.now c.as_slice.result.now c.actions-actions.ensures.value c.as_slice-children.ensures.value c.as_slice.ensures.value

pub middles_of-requires-clause-within : goal.middles_of-requires-clause-within
middles_of-requires-clause-within c =
    rows_within c.args.picture.now c.requires c.actions-actions.result.now c.decompositions-decompositions.result.now c.as_slice.result.now c.actions-actions.ensures.value
    c.decompositions-decompositions.ensures.value c.as_slice.ensures.value

pub middles_of-requires-clause-once : goal.middles_of-requires-clause-once
middles_of-requires-clause-once c = rows_once c.args.picture.now c.requires c.as_slice.result.now c.as_slice.ensures.value
