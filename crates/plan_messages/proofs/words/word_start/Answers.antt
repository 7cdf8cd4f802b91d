use Rattle.std.proofs.Common.{get_or, subst, sym}
use Rattle.std.proofs.Common.{◌∙◌}
use Rattle.plan_messages.specs.Spots.{IsOnLine}
use Rattle.plan_messages.proofs.OneLine.{blank_other, on_more, on_start}
use Rattle.plan_messages.proofs.words.word_start.Goals as goal

pub loop-at-init : goal.loop-at-init
loop-at-init c = subst (λ x. IsOnLine c.args.text.now c.args.from x) (sym c.min-at.ensures) (on_start c.args.text.now c.args.from)

pub loop-at-preserved : goal.loop-at-preserved
loop-at-preserved c =
    let other = blank_other (get_or c.args.text.now c.loop-at.at 0) (sym c.is_blank.ensures ∙ c.if-is_blank.true) in
    on_more c.args.text.now c.args.from c.loop-at.at c.loop-at.invariant c.loop-at-test.true other
