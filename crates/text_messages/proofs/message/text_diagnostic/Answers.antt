use Rattle.std.proofs.Common.{◌∙◌, ap, subst, sym}
use Rattle.std.specs.List.{All}
use Rattle.diagnostics.specs.Near.{names_of}
use Rattle.text_messages.specs.Following.{MayBeMeant}
use Rattle.text_messages.proofs.message.text_diagnostic.Goals as goal

pub returns-clause-offers : goal.returns-clause-offers
returns-clause-offers c =
    subst (All (MayBeMeant c.args.source.now c.args.fault)) (sym (c.in_ok-told.ensures.offers ∙ ap names_of c.as_slice.ensures.value)) c.in_ok-near.ensures
