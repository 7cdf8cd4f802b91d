use Rattle.htn_model.proofs.Greedy.{greedy_spans_decide, lines_decide}
use Rattle.htn_model.proofs.plans.greedy_spans_decide.Goals as goal

pub returns : goal.returns
returns c = record { decide = greedy_spans_decide; lines = lines_decide }
