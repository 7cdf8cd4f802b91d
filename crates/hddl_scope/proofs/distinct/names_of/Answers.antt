use Rattle.std.proofs.Common.{[]}
use Rattle.hddl_scope.proofs.Distinctness.{names-next}
use Rattle.hddl_scope.proofs.distinct.names_of.Goals as goal

pub loop-mention-preserved : goal.loop-mention-preserved
loop-mention-preserved c =
    names-next c.loop-mention.known c.note.new.known [] c.args.mentions.now c.loop-mention.mention-index c.mention-item.result c.loop-mention-test.true
    c.mention-item.is c.in_ok-note.ensures c.loop-mention.invariant
