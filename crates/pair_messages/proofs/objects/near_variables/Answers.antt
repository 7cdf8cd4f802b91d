use Rattle.std.proofs.Common.{◌∙◌, ap, map, subst}
use Rattle.std.specs.List.{All}
use Rattle.hddl_meaning.specs.Mentions.{folded}
use Rattle.diagnostics.specs.Near.{names_of}
use Rattle.pair_messages.specs.Offers.{IsNearest}
use Rattle.pair_messages.proofs.objects.near_variables.Goals as goal

pub returns : goal.returns
returns c =
    subst (λ names. All (IsNearest c.args.word.now names) (names_of c.in_ok-near.near.items))
    (ap (λ l. map folded (names_of l)) c.as_slice.ensures.value ∙ c.in_ok-names.ensures) c.in_ok-near.ensures
