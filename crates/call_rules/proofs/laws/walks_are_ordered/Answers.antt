use Rattle.call_rules.proofs.Walks.{total_are_ordered, starts_are_ranked, ordered_step}
use Rattle.call_rules.proofs.laws.walks_are_ordered.Goals as goal

pub returns : goal.returns
returns c = record { total = total_are_ordered; starts = starts_are_ranked; steps = ordered_step }
