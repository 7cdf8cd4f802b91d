use Rattle.std.proofs.Common.{true≢false, sym, ◌∙◌}
use Rattle.hddl_scope.proofs.Distinctness.{Within-start, Within-next, Within-past, Within-end}
use Rattle.hddl_scope.proofs.distinct.past_distinct.Goals as goal

pub loop-mention-init : goal.loop-mention-init
loop-mention-init c = Within-start c.in_ok-known.known c.args.first.now c.in_ok-known.ensures

pub loop-mention-preserved : goal.loop-mention-preserved
loop-mention-preserved c =
    Within-next c.loop-mention.known c.note.new.known c.args.first.now c.args.mentions.now c.loop-mention.mention-index c.mention-item.result c.loop-mention-test.true
    c.mention-item.is c.in_ok-note.ensures (λ past. true≢false (sym (c.is_past.ensures.1 past) ∙ c.if-is_past.false)) c.loop-mention.invariant

pub returns-then-is_past : goal.returns-then-is_past
returns-then-is_past c =
    Within-past c.loop-mention.known c.args.first.now c.args.mentions.now c.loop-mention.mention-index c.mention-item.result c.place.result c.loop-mention-test.true
    c.mention-item.is (c.is_past.ensures.0 c.if-is_past.true) c.place.ensures c.loop-mention.invariant

pub returns : goal.returns
returns c = Within-end c.loop-mention.known c.args.first.now c.args.mentions.now c.loop-mention.mention-index c.loop-mention-test.false c.loop-mention.invariant
