use Rattle.std.proofs.Common.{◌∙◌, ap, false, get_or, nat_eq, set, sym, ◌≡◌}
use Rattle.std.specs.List.{list_any}
use Rattle.std.specs.Prelude.{is_some}
use Rattle.std.proofs.lemmas.Bool.{eqb-true}
use Rattle.std.proofs.lemmas.List.Quantifiers.{position-Some}
use Rattle.plan_messages.specs.Sightings.{seen_again, seen_of}
use Rattle.plan_messages.proofs.Seeing.{not_found, seen_else, seen_some}
use Rattle.plan_messages.proofs.sighting.see.Goals as goal

pub returns-in-Some-clause-seen : goal.returns-in-Some-clause-seen
returns-in-Some-clause-seen c before was =
    let ids = c.args.ids.now.keys in
    let m = c.args.mention in
    let n = c.in-Some.number in
    let d = c.index.result.now in
    let at = position-Some (nat_eq m.id) ids n 0 (sym c.get_index_of.ensures.index ∙ c.in-Some.is) in
    let next = seen_some before m ids n d c.requires.different at.0 (sym (eqb-true m.id (get_or ids n 0) at.1)) in
    ap (λ l. set l n c.seen_again.result) was
    ∙ ap (λ o. set (seen_of ids before) n o) (c.seen_again.ensures ∙ ap (λ o. seen_again o m.place) (c.index.ensures ∙ ap (λ l. get_or l n d) was)) ∙ sym next

pub returns-in_default-clause-seen : goal.returns-in_default-clause-seen
returns-in_default-clause-seen c before was =
    let ids = c.args.ids.now.keys in
    let m = c.args.mention in
    let none : list_any (nat_eq m.id) ids ≡ false = sym c.get_index_of.ensures.found ∙ ap is_some c.in_default.is in
    was ∙ sym (seen_else before m ids (not_found m.id ids none))
