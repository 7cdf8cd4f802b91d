use Rattle.std.proofs.Common.{◌++◌, ◌∷◌, [], ap, ◌∙◌}
use Rattle.diagnostics.proofs.Feeds.{feeds_more_yes, feeds_more_no}
use Rattle.diagnostics.proofs.text_lines.Lines.new.Goals as goal
use Rattle.diagnostics.proofs.text_lines.Lines.new.Goals.{then-byte-eq10+in_ok-push, else-byte-eq10}

pub loop-place-preserved : goal.loop-place-preserved
loop-place-preserved c =
    let text = c.args.text.now in
    let i = c.loop-place.place in
    elim c.if-byte-eq10.branch [
      | then-byte-eq10+in_ok-push w ↦ ap (λ v. v.items) w.feeds-is ∙ w.in_ok-push.ensures.items ∙ ap (λ l. l ++ i ∷ []) c.loop-place.invariant ∙ feeds_more_yes text i c.loop-place-test.true w.if-byte-eq10.true
      | else-byte-eq10 w ↦ ap (λ v. v.items) w.feeds-is ∙ c.loop-place.invariant ∙ feeds_more_no text i c.loop-place-test.true w.if-byte-eq10.false
    ]
