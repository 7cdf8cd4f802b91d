use Rattle.std.proofs.Common.{◌∙◌, ap, sym, Some}
use Rattle.pair_messages.proofs.firsts.declaration_of.Goals as goal

pub returns : goal.returns
returns c =
    (c.in_ok-found.ensures.0, sym c.called_place.ensures ∙ c.in-Some.is ∙ ap Some (sym c.in_ok-found.ensures.1))
