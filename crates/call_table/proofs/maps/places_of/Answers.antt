use Rattle.std.proofs.Common.{get_or, Contains, subst}
use Rattle.std.proofs.lemmas.List.Elements.{Contains-get_or}
use Rattle.call_table.specs.declared.call.Place.{Place}
use Rattle.call_table.proofs.Looked.{no_places, place_more}
use Rattle.call_table.proofs.maps.places_of.Goals as goal

pub loop-place-init : goal.loop-place-init
loop-place-init c = no_places c.args.call.now c.in_ok-found.found c.in_ok-found.ensures.empty

pub loop-place-preserved : goal.loop-place-preserved
loop-place-preserved c =
    let place : Place = get_or c.deref-place-items.result.now c.loop-place.place-index (record { state = 0; blocks = 0; distance = 0 }) in
    place_more c.args.call.now c.loop-place.found c.insert.new.self place
    (subst (λ xs. Contains xs place) c.deref-place-items.ensures.value
    (Contains-get_or c.deref-place-items.result.now c.loop-place.place-index (record { state = 0; blocks = 0; distance = 0 }) c.loop-place-test.true))
    c.loop-place.invariant c.in_ok-insert.ensures.updates.0
