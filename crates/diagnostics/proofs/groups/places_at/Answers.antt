use Rattle.std.proofs.Common.{◌++◌, ◌∷◌, [], length, take, get_or, refl, ap, sym, ◌∙◌, map}
use Rattle.std.proofs.lemmas.List.{map_push}
use Rattle.std.proofs.lemmas.Option.{slice_get_read}
use Rattle.diagnostics.specs.Groups.{picked}
use Rattle.diagnostics.proofs.Joins.{picked_more_some, picked_more_none, slice_get_past}
use Rattle.diagnostics.proofs.groups.places_at.Goals as goal
use Rattle.diagnostics.proofs.groups.places_at.Goals.{in-Some+in_ok-push, in_default}

pub loop-index-preserved : goal.loop-index-preserved
loop-index-preserved c =
    let ds = c.args.diagnostics.now in
    let ns = c.args.indices.now in
    let k = c.loop-index.index-index in
    let h = c.loop-index-test.true in
    elim c.match-get.branch [
      | in-Some+in_ok-push w ↦
          let d = w.in-Some.diagnostic.now in
          let is = slice_get_read ds (length ds) (get_or ns k 0) d refl w.in-Some.ensures.lookup.3.0 w.in-Some.ensures.lookup.1 in
          ap (λ v. v.items) w.places-is ∙ w.in_ok-push.ensures.items ∙ ap (λ l. l ++ d.about ∷ []) c.loop-index.invariant
          ∙ sym (ap (map (λ x. x.about)) (picked_more_some ds ns k h d is) ∙ map_push (λ x. x.about) (picked ds (take k ns)) d)
      | in_default w ↦
          ap (λ v. v.items) w.places-is ∙ c.loop-index.invariant ∙ sym (ap (map (λ x. x.about)) (picked_more_none ds ns k h (slice_get_past ds (get_or ns k 0) w.in_default.ensures.lookup.3)))
    ]
