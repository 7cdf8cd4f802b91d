use Rattle.std.proofs.Common.{◌≡◌, ◌∙◌, Some, ap, length, option_map, refl, slice_get, sym}
use Rattle.std.proofs.lemmas.Option.{slice_get_read}
use Rattle.pair_messages.proofs.compared.at_position.Goals as goal

pub returns : goal.returns
returns c =
    let xs = c.args.mentions.now in
    let k = c.args.position in
    let x = c.in-Some.mention.now in
    let is : slice_get xs k ≡ Some x = slice_get_read xs (length xs) k x refl c.in-Some.ensures.lookup.3.0 c.in-Some.ensures.lookup.1 in
    (refl, ap (option_map (λ m. m.place)) is ∙ ap Some (sym c.place.ensures))
