use Rattle.std.proofs.Common.{◌∙◌, ap, List, map}
use Rattle.hddl_words.specs.declared.domain.PredicateText.{PredicateText}
use Rattle.hddl_meaning.specs.Mentions.{mention_of}
use Rattle.hddl_uses.specs.Contexts.{Fails, PassedOver}
use Rattle.hddl_check.specs.TextParts.{name_parts}
use Rattle.hddl_scope.proofs.Adding.{Adds-list}
use Rattle.hddl_check.proofs.shape.check_predicate_names.Goals as goal

pub returns : goal.returns
returns c =
    Adds-list (PassedOver c.args.context.now) (Fails c.args.context.now)
    (ap name_parts (c.deref.ensures.value ∙ c.in_ok-predicates.ensures ∙ ap (λ (xs : List PredicateText). map (λ x. mention_of x.name) xs) c.as_slice.ensures))
    c.in_ok-check_names.ensures
