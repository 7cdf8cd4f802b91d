use Rattle.std.proofs.Common.{subst}
use Rattle.std.proofs.lemmas.List.{take_all}
use Rattle.pair_messages.specs.Firsts.{AreFirstOf}
use Rattle.pair_messages.proofs.firsts.first_places.Goals as goal

pub returns : goal.returns
returns c =
    subst (λ names. AreFirstOf names c.loop-mention.places) (take_all c.loop-mention.mention-index c.args.mentions.now c.loop-mention-test.false) c.loop-mention.invariant
