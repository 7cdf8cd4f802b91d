use Rattle.std.proofs.Common.{◌∙◌, [], sym, arith}
use Rattle.network_table.specs.Numbered.{numbered_eq-decides}
use Rattle.network_table.specs.Entries.{network_by}
use Rattle.std.proofs.lemmas.List.{length-map}
use Rattle.network_table.proofs.Alone.{whole_there}
use Rattle.network_table.proofs.made.is_at.Goals as goal

pub returns-in-Whole : goal.returns-in-Whole
returns-in-Whole c = λ told.
    let networks = c.args.networks.now in
    let kept = c.in-Whole.kept in
    let inside = c.if-place-networks.false in (
      omega (arith, inside, length-map networks (network_by [])),
      whole_there networks c.args.place kept c.index-networks-place.result inside c.index-networks-place.is c.in-Whole.is ∙ (numbered_eq-decides kept c.args.network.now).0 (sym c.eq.ensures ∙ told),
    )
