use Rattle.std.proofs.Common.{List, [], map, subst}
use Rattle.hddl_words.specs.declared.domain.PredicateText.{PredicateText}
use Rattle.hddl_meaning.specs.Items.{signature}
use Rattle.hddl_uses.specs.Tables.{IsTableOf}
use Rattle.hddl_uses.proofs.declared.predicates_of.Goals as goal

pub returns : goal.returns
returns c =
    subst (λ (xs : List PredicateText). IsTableOf (map (λ x. signature x.name x.parameters) xs) c.push_predicates.new.self) c.as_slice.ensures (c.in_ok-push_predicates.ensures [] c.in_ok-table.ensures)
