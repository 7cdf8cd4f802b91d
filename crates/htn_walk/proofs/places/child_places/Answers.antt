use Rattle.std.proofs.Common.{◌≡◌, ◌+◌, ◌∷◌, [], ◌++◌, ap, ◌∙◌, arith}
use Rattle.htn_walk.specs.Places.{child_places}
use Rattle.htn_walk.proofs.ChildPlaces.{one_more, seen_in_order}
use Rattle.htn_walk.proofs.places.child_places.Goals as goal

pub loop-position-preserved : goal.loop-position-preserved
loop-position-preserved c =
    one_more c.loop-position.places.items c.push.new.self.items c.in_ok-child_place.field-0 c.args.place.items c.loop-position.position
    c.loop-position.invariant c.in_ok-push.ensures.items (c.in_ok-child_place.ensures ∙ ap (λ p. p ++ c.loop-position.position ∷ []) c.deref.ensures.value)

pub returns : goal.returns
returns c =
    let reached : c.loop-position.position ≡ c.in-Some.last = omega arith in
    let whole : c.in-Some.last + 1 ≡ c.args.count = omega arith in
    seen_in_order c.push-3.new.self.items c.reverse.new.self.items c.reverse.ensures.items
    ∙ one_more c.loop-position.places.items c.push-3.new.self.items c.push-2.new.self c.args.place.items c.in-Some.last
    (c.loop-position.invariant ∙ ap (child_places c.args.place.items 0) reached) c.in_ok-push-3.ensures.items c.in_ok-push-2.ensures.items
    ∙ ap (child_places c.args.place.items 0) whole
