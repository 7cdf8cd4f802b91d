use Rattle.std.proofs.Common.{◌≡◌, ◌∙◌, ap, map, subst, sym}
use Rattle.std.specs.List.{All}
use Rattle.hddl_meaning.specs.Mentions.{folded}
use Rattle.diagnostics.specs.Near.{names_of}
use Rattle.pair_messages.specs.Offers.{IsNearest, names_of_kind, nearest_in}
use Rattle.pair_messages.proofs.Folded.{kind_folded}
use Rattle.pair_messages.proofs.Nearest.{nearest_all}
use Rattle.pair_messages.proofs.near.near_of_kind.Goals as goal

pub returns : goal.returns
returns c =
    let word = c.args.word.now in
    let d = c.args.domain.now in
    let k = c.args.kind in
    let found = names_of c.in_ok-near.near.items in
    let is : found ≡ nearest_in word (names_of_kind d k) =
    c.in_ok-near.ensures ∙ ap (λ l. nearest_in word (names_of l)) c.as_slice.ensures.value ∙ ap (nearest_in word) c.in_ok-names.ensures in
    subst (λ names. All (IsNearest word names) found) (kind_folded d k)
    (subst (λ l. All (IsNearest word (map folded (names_of_kind d k))) l) (sym is) (nearest_all word (names_of_kind d k)))
