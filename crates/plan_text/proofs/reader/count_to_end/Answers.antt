use Rattle.std.proofs.Common.{◌≡◌, ◌∷◌, drop, sym, ◌∙◌}
use Rattle.plan_text.specs.Seen.{seen}
use Rattle.plan_text.proofs.Markers.{drop_more, inside, counted_more}
use Rattle.plan_text.proofs.reader.count_to_end.Goals as goal

pub loop-line-preserved : goal.loop-line-preserved
loop-line-preserved c =
    let before = c.loop-line.invariant in
    let all = c.args.lines.now in
    let left : drop c.loop-line.count all ≡ seen c.in-Some.line ∷ c.next.new.self = sym before.left_is ∙ c.in-Some.ensures in
    record {
      few = before.few;
      left_is = sym (drop_more all c.loop-line.count _ _ left);
      counted = inside all c.loop-line.count _ _ left;
      same = counted_more all c.loop-line.count _ _ left (sym c.if-is_marker.ensures) (rw c.in-Some.ensures at before.same);
    }
