use Rattle.std.proofs.Common.{◌∙◌, List, ap, subst}
use Rattle.htn_model.specs.Literal.{Literal}
use Rattle.heuristics.specs.Rows.{wants_by}
use Rattle.heuristics.specs.StoredNeeds.{AreWants}
use Rattle.heuristics.proofs.node.Node.of.Goals as goal

pub returns-clause-known : goal.returns-clause-known
returns-clause-known c = record {
  row = c.place-place.ensures.row;
  blocked = c.place-place.ensures.blocked;
  lost = c.is_lost-is_lost.ensures;
  wants = subst (λ (l : List Literal). AreWants c.args.prospects.now.needs c.wants_of.new.atoms c.in_ok-wants.wants.items l)
      (c.wants_at.ensures ∙ ap wants_by c.place-place.ensures.row) c.in_ok-wants.ensures.wants;
}
