use Rattle.diagnostics.specs.Near.{names_of}
use Rattle.pair_messages.proofs.Questions.{name_at}
use Rattle.pair_messages.proofs.types.written_types.Goals as goal

pub loop-text-preserved : goal.loop-text-preserved
loop-text-preserved c =
    let near = c.args.near.now in
    c.in_ok-push_type.ensures (names_of near) (name_at near c.loop-text.text-index _ c.loop-text-test.true) c.loop-text.invariant
