use Rattle.std.proofs.Common.{append-nil, subst, sym, take_all, ◌++◌}
use Rattle.std.specs.List.{AllZip}
use Rattle.plan_messages.specs.Mentions.{IsMention, listed_by}
use Rattle.plan_messages.proofs.Mentioned.{listed_step}
use Rattle.plan_messages.proofs.OneLine.{on_through}
use Rattle.plan_messages.proofs.mentions.add_listed.Goals as goal

pub loop-id-init : goal.loop-id-init
loop-id-init c = record {
  on_line = c.after_words-at.ensures;
  grown = λ before all. subst (λ es. AllZip (IsMention c.args.text.now) es c.args.mentions.now.items) (sym (append-nil before)) all;
}

pub loop-id-preserved : goal.loop-id-preserved
loop-id-preserved c =
    let text = c.args.text.now in
    let begins = on_through text c.args.line c.loop-id.at c.word_start-place.result c.loop-id.invariant.on_line c.word_start-place.ensures in
    record {
      on_line = on_through text c.args.line c.word_start-place.result c.word_end-at.result begins c.word_end-at.ensures;
      grown = λ before all. listed_step text c.args.listed.now c.args.line c.loop-id.id-index c.word_start-place.result before _ _ c.loop-id-test.true begins (c.loop-id.invariant.grown before all) c.in_ok-push.ensures.items;
    }

pub returns : goal.returns
returns c before all =
    let whole = take_all c.loop-id.id-index c.args.listed.now c.loop-id-test.false in
    subst (λ ls. AllZip (IsMention c.args.text.now) (before ++ listed_by ls c.args.line) c.loop-id.mentions.items) whole (c.loop-id.invariant.grown before all)
