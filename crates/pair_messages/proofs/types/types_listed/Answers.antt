use Rattle.diagnostics.proofs.Asking.{list_of}
use Rattle.pair_messages.proofs.types.types_listed.Goals as goal

pub returns : goal.returns
returns c = list_of _ _ _ c.in_ok-parts.ensures.items c.type_words.ensures c.in_ok-push_names.ensures.begin
