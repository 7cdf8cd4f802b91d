use Rattle.std.proofs.Common.{ℕ, ◌++◌, ap, ◌∙◌}
use Rattle.diagnostics.specs.Shown.{shown}
use Rattle.picture_text.proofs.Writes.{each_more}
use Rattle.picture_svg.specs.Escape.{escape}
use Rattle.picture_html.proofs.escape.say_clean.Goals as goal

pub loop-byte-preserved : goal.loop-byte-preserved
loop-byte-preserved c =
    each_more (λ (b : ℕ). escape (shown b)) c.args.out.now.items c.loop-byte.out.items c.say_byte.new.out.items c.args.words.now c.loop-byte.byte-index c.loop-byte-test.true
    c.loop-byte.invariant (c.in_ok-say_byte.ensures ∙ ap (λ b. c.loop-byte.out.items ++ escape b) c.shown.ensures)
