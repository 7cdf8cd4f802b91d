use Rattle.std.proofs.Common.{◌∙◌, ap, subst, map, ◌++◌}
use Rattle.std.specs.List.{flat_map}
use Rattle.hddl_meaning.specs.Mentions.{mention_of}
use Rattle.hddl_meaning.specs.Names.{optional_mention}
use Rattle.pair_messages.specs.Firsts.{AreFirstOf}
use Rattle.pair_messages.proofs.firsts.first_types.Goals as goal

pub returns : goal.returns
returns c = subst (λ names. AreFirstOf names c.in_ok-places.places) (c.as_slice-2.ensures.value ∙ c.in_ok-mentions.ensures ∙ ap (flat_map (λ g. map mention_of g.names ++ optional_mention g.of_type)) c.as_slice.ensures) c.in_ok-places.ensures
