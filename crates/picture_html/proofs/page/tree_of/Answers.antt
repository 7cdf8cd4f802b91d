use Rattle.std.proofs.Common.{length, ap, arith}
use Rattle.picture_html.proofs.page.tree_of.Goals as goal

pub returns-then-lines-gt-MAX_DRAWN : goal.returns-then-lines-gt-MAX_DRAWN
returns-then-lines-gt-MAX_DRAWN c =
    let count = ap length c.as_slice-lines.ensures.value in
    let many = c.if-lines-gt-MAX_DRAWN.true in
    record {
      drawn = λ few. absurd (omega arith);
      left_out = λ many. c.new.ensures.items;
    }

pub returns : goal.returns
returns c =
    let count = ap length c.as_slice-lines.ensures.value in
    let few = c.if-lines-gt-MAX_DRAWN.false in
    record {
      drawn = λ few. c.in_ok-tree.ensures;
      left_out = λ many. absurd (omega arith);
    }
