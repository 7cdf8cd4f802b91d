use Rattle.std.proofs.Common.{◌≡◌, ◌∙◌, ap, subst, sym}
use Rattle.hddl_meaning.specs.Names.{type_names}
use Rattle.diagnostics.specs.Near.{names_of}
use Rattle.pair_messages.specs.Known.{known_types}
use Rattle.pair_messages.specs.Offers.{AreNearest, nearest_in}
use Rattle.pair_messages.proofs.Meant.{found_are, known_are, types_are}
use Rattle.pair_messages.proofs.types.near_types.Goals as goal

pub returns : goal.returns
returns c =
    let word = c.args.word.now in
    let d = c.args.index.now.texts.now.domain_tree.now in
    let is : names_of c.in_ok-near.near.items ≡ nearest_in word (known_types d) =
    c.in_ok-near.ensures ∙ ap (λ l. nearest_in word (names_of l)) c.as_slice.ensures.value ∙ ap (nearest_in word) (c.in_ok-names.ensures ∙ c.args.index.now.types) in
    subst (AreNearest word (type_names d)) (sym is) (found_are word (known_types d) (type_names d) (known_are d) (types_are d))
