use Rattle.std.proofs.Common.{map, subst, sym}
use Rattle.std.specs.List.{All}
use Rattle.hddl_meaning.specs.Mentions.{folded}
use Rattle.diagnostics.specs.Near.{names_of}
use Rattle.pair_messages.specs.Offers.{IsNearest}
use Rattle.pair_messages.proofs.Nearest.{nearest_all}
use Rattle.pair_messages.proofs.near.nearest_within.Goals as goal

pub returns : goal.returns
returns c =
    let word = c.args.word.now in
    let names = names_of c.args.names.now in
    subst (λ l. All (IsNearest word (map folded names)) l) (sym c.in_ok-near.ensures) (nearest_all word names)
