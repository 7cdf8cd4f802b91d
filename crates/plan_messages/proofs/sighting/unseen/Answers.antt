use Rattle.std.proofs.Common.{◌∙◌, ◌∷◌, ◌++◌, [], ℕ, None, ap, get_or, sym, take}
use Rattle.std.proofs.lemmas.List.{map-append, take_more}
use Rattle.plan_messages.specs.Sightings.{places_of, seen_of, sighting_of}
use Rattle.plan_messages.proofs.sighting.unseen.Goals as goal

pub loop-id-preserved : goal.loop-id-preserved
loop-id-preserved c =
    let ids = c.args.ids.now in
    let i = c.loop-id.id-index in
    c.in_ok-push.ensures.items ∙ ap (λ l. l ++ None ∷ []) c.loop-id.invariant
    ∙ sym (map-append (λ (id : ℕ). sighting_of (places_of id [])) (take i ids) (get_or ids i 0 ∷ [])) ∙ sym (ap (λ l. seen_of l []) (take_more ids i 0 c.loop-id-test.true))
