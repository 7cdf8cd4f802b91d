use Rattle.std.proofs.Common.{◌∙◌, ap, subst, sym}
use Rattle.diagnostics.specs.Near.{names_of}
use Rattle.pair_messages.specs.Offers.{AreWritten}
use Rattle.pair_messages.proofs.types.ask_types.Goals as goal

pub returns : goal.returns
returns c = subst (AreWritten (names_of c.args.near.now)) (sym (c.in_ok-remarks.ensures ∙ ap names_of c.as_slice.ensures.value)) c.in_ok-names.ensures
