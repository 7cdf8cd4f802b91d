use Rattle.std.proofs.Common.{◌++◌, ◌∷◌, [], append_assoc, ap, sym, ◌∙◌}
use Rattle.plan_text.specs.Seen.{seen}
use Rattle.plan_text.proofs.FileLaws.{read_more}
use Rattle.plan_text.proofs.reader.read_lines.Goals as goal

pub loop-line-preserved : goal.loop-line-preserved
loop-line-preserved c =
    let before = c.loop-line.invariant in
    let line = seen c.in-Some.line in
    record {
      front = before.front ++ line ∷ [];
      whole = before.whole ∙ ap (λ rest. before.front ++ rest) c.in-Some.ensures ∙ sym (append_assoc before.front (line ∷ []) c.next.new.self);
      read = read_more before.front _ _ line before.read c.in_ok-read_line.ensures.read c.in_ok-read_line.ensures.once;
    }
