use Rattle.std.proofs.Common.{subst}
use Rattle.pair_messages.specs.Notes.{AreNotes}
use Rattle.pair_messages.proofs.pair.pair_diagnostic.Goals as goal

pub returns-clause-notes : goal.returns-clause-notes
returns-clause-notes c =
    subst (λ remarks. AreNotes c.args.index.now.texts.now c.args.fault remarks c.in_ok-notes.notes.items) c.as_slice.ensures.value c.in_ok-notes.ensures
