use Rattle.std.proofs.Common.{Global, Vec, ap, ◌∙◌}
use Rattle.std.proofs.lemmas.List.{map-append}
use Rattle.htn_task.specs.declared.term.Term.TheVariants.{Parameter}
use Rattle.htn_ground.specs.declared.conditions.Place.{Place}
use Rattle.htn_ground.specs.Places.{place_of, places_of}
use Rattle.htn_ground.proofs.Steps.{place_dropped, place_kept, place_missing}
use Rattle.htn_ground.proofs.conditions.push_places.Goals as goal
use Rattle.htn_ground.proofs.conditions.push_places.Goals.{in-Some+then-is_among+in_ok-push, in-Some+else-is_among, in_default}

pub loop-place-preserved : goal.loop-place-preserved
loop-place-preserved c =
    let start = places_of c.args.places.now.items in
    let done = places_of c.loop-place.places.items in
    let next = places_of c.match-get.places.items in
    elim c.match-get.branch [
      | in-Some+then-is_among+in_ok-push w ↦
          place_kept c.args.count c.args.terms.now c.args.types.now c.loop-place.place (Parameter 0) w.in-Some.type_number.now start done next
          c.loop-place-test.true w.in-Some.ensures.lookup.3.0 (w.in-Some.ensures.lookup.3.1 0) w.if-is_among.ensures c.loop-place.invariant
          (ap (λ (v : Vec Place Global). places_of v.items) w.places-is ∙ ap places_of w.in_ok-push.ensures.items ∙ map-append place_of c.loop-place.places.items _)
      | in-Some+else-is_among w ↦
          place_dropped c.args.count c.args.terms.now c.args.types.now c.loop-place.place (Parameter 0) start done next
          c.loop-place-test.true w.in-Some.ensures.lookup.3.0 w.if-is_among.ensures c.loop-place.invariant
          (ap (λ (v : Vec Place Global). places_of v.items) w.places-is)
      | in_default w ↦
          place_missing c.args.count c.args.terms.now c.args.types.now c.loop-place.place start done next
          c.loop-place-test.true w.in_default.ensures.lookup.3 c.loop-place.invariant
          (ap (λ (v : Vec Place Global). places_of v.items) w.places-is)
    ]
