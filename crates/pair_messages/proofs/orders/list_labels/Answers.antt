use Rattle.diagnostics.proofs.Asking.{list_of}
use Rattle.pair_messages.proofs.orders.list_labels.Goals as goal

pub returns : goal.returns
returns c = list_of _ _ _ c.in_ok-parts.ensures.items c.label_words.ensures c.in_ok-push_names.ensures.begin
