use Rattle.std.proofs.Common.{subst, sym}
use Rattle.plan_messages.specs.Spots.{IsOnLine}
use Rattle.plan_messages.proofs.OneLine.{on_more, on_start}
use Rattle.plan_messages.proofs.words.word_end.Goals as goal

pub loop-at-init : goal.loop-at-init
loop-at-init c = subst (λ x. IsOnLine c.args.text.now c.args.from x) (sym c.min-at.ensures) (on_start c.args.text.now c.args.from)

pub loop-at-preserved : goal.loop-at-preserved
loop-at-preserved c = on_more c.args.text.now c.args.from c.loop-at.at c.loop-at.invariant c.loop-at-test.true c.if-text-at-ne10.true
