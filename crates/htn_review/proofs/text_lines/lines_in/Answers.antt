use Rattle.htn_review.proofs.TextLines.{lines_of_both}
use Rattle.htn_review.proofs.text_lines.lines_in.Goals as goal

pub unreachable-requires : goal.unreachable-requires
unreachable-requires c =
    let none = rw c.in_default.is at c.in_ok-places.ensures in
    none.none c.requires.0 c.requires.1

pub returns : goal.returns
returns c = λ file is.
    let found = rw c.in-Some.is at c.in_ok-places.ensures in
    record {
      places = c.in-Some.places;
      are = found.found file is;
      lines_are = lines_of_both c.args.text.now _ c.new-lines.result.items _ _ _ _ _ _ c.in_ok-table.ensures c.new-lines.ensures.items c.in_ok-push_lines.ensures c.in_ok-push_lines-2.ensures
          c.deref.ensures.value c.deref-2.ensures.value;
    }
