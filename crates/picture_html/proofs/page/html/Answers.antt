use Rattle.std.proofs.Common.{◌∙◌, ap, ap₂, length, subst}
use Rattle.plan_picture.specs.Seen.{seen_all}
use Rattle.picture_svg.specs.Grid.{rows_of, actions_of, children_of}
use Rattle.picture_svg.proofs.Pictured.{rows_within, rows_once}
use Rattle.picture_html.specs.Outline.{bars_at}
use Rattle.picture_html.specs.Page.{html_bytes}
use Rattle.picture_html.specs.Runs.{AreAllFound}
use Rattle.picture_html.proofs.Deeper.{own_rows_all}
use Rattle.picture_html.proofs.Found.{all_bars}
use Rattle.picture_html.proofs.page.html.Goals as goal

pub bars_of-requires-clause-within : goal.bars_of-requires-clause-within
bars_of-requires-clause-within c =
    rows_within c.args.picture.now c.requires c.actions-actions.result.now c.decompositions-decompositions.result.now c.as_slice.result.now c.actions-actions.ensures.value
    c.decompositions-decompositions.ensures.value c.as_slice.ensures.value

pub bars_of-requires-clause-once : goal.bars_of-requires-clause-once
bars_of-requires-clause-once c = rows_once c.args.picture.now c.requires c.as_slice.result.now c.as_slice.ensures.value

pub returns : goal.returns
returns c =
    let caption = c.args.caption.now in
    let picture = c.args.picture.now in
    let bars = c.in_ok-bars.bars.items in
    let tree = c.in_ok-tree.tree.items in
    let found : AreAllFound (actions_of picture) (rows_of picture) (bars_at bars) =
    subst (λ n. AreAllFound n (rows_of picture) (bars_at bars)) (ap length c.actions-actions.ensures.value)
    (subst (λ rs. AreAllFound (length c.actions-actions.result.now) (seen_all rs) (bars_at bars)) c.as_slice.ensures.value c.in_ok-bars.ensures) in
    record {
      bars = bars_at bars;
      are_bars = all_bars (actions_of picture) (children_of picture) (bars_at bars) (rows_of picture) found (own_rows_all (children_of picture) picture.roots.items (rows_of picture) c.requires.drawing.preorder);
      svg = tree;
      is_tree = c.in_ok-tree.ensures;
      bytes_are = c.in_ok-page.ensures ∙ ap₂ (λ bs t. html_bytes caption c.args.remarks.now picture (bars_at bs) t) c.as_slice-2.ensures.value c.as_slice-3.ensures.value;
    }
