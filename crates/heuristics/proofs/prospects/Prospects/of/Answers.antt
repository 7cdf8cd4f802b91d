use Rattle.std.proofs.lemmas.Option.{IfSome_then}
use Rattle.heuristics.proofs.prospects.Prospects.of.Goals as goal

pub returns : goal.returns
returns c = λ listed. record {
  outlook = c.in_ok-needs.ensures listed;
  reach = IfSome_then c.in_ok-reach.reach c.in_ok-reach.ensures.reach (λ r right. right listed);
  first = c.in_ok-reach.ensures.starts;
}
