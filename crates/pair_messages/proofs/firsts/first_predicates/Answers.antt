use Rattle.std.proofs.Common.{◌∙◌, subst}
use Rattle.pair_messages.specs.Firsts.{AreFirstOf}
use Rattle.pair_messages.proofs.firsts.first_predicates.Goals as goal

pub returns : goal.returns
returns c = subst (λ names. AreFirstOf names c.in_ok-places.places) (c.as_slice.ensures.value ∙ c.in_ok-mentions.ensures) c.in_ok-places.ensures
