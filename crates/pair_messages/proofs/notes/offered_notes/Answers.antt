use Rattle.std.proofs.Common.{◌∙◌, ap, subst}
use Rattle.std.specs.List.{All}
use Rattle.diagnostics.specs.Near.{names_of}
use Rattle.pair_messages.specs.Firsts.{IsFirstNote}
use Rattle.pair_messages.proofs.notes.offered_notes.Goals as goal

pub returns : goal.returns
returns c =
    subst (λ names. All (IsFirstNote c.args.index.now.texts.now c.args.sort names) c.in_ok-notes.notes.items) (ap names_of c.as_slice.ensures.value ∙ c.in_ok-names.ensures)
    c.in_ok-notes.ensures
