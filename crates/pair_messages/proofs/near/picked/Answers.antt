use Rattle.std.proofs.Common.{◌++◌, ◌∷◌, [], length, get_or, option_map, refl, ap, sym, ◌∙◌}
use Rattle.std.proofs.lemmas.List.{map_push}
use Rattle.std.proofs.lemmas.Option.{slice_get_read}
use Rattle.diagnostics.specs.Near.{names_of}
use Rattle.pair_messages.proofs.Picks.{slice_get_mapped, slice_get_past, picks_more_some, picks_more_none}
use Rattle.pair_messages.proofs.near.picked.Goals as goal
use Rattle.pair_messages.proofs.near.picked.Goals.{in-Some+in_ok-push, in_default}

pub loop-number-preserved : goal.loop-number-preserved
loop-number-preserved c =
    let xs = c.args.names.now in
    let ns = c.args.numbers.now in
    let k = c.loop-number.number-index in
    let h = c.loop-number-test.true in
    let i = get_or ns k 0 in
    elim c.match-get.branch [
      | in-Some+in_ok-push w ↦
          let d = w.in-Some.name.now in
          let is = slice_get_read xs (length xs) i d refl w.in-Some.ensures.lookup.3.0 w.in-Some.ensures.lookup.1 in
          ap (λ v. names_of v.items) w.found-is ∙ ap names_of w.in_ok-push.ensures.items ∙ map_push (λ s. s.now) c.loop-number.found.items d
          ∙ ap (λ l. l ++ d.now ∷ []) c.loop-number.invariant
          ∙ sym (picks_more_some (names_of xs) ns k h d.now (slice_get_mapped (λ s. s.now) xs i ∙ ap (option_map (λ s. s.now)) is))
      | in_default w ↦
          ap (λ v. names_of v.items) w.found-is ∙ c.loop-number.invariant
          ∙ sym (picks_more_none (names_of xs) ns k h (slice_get_mapped (λ s. s.now) xs i ∙ ap (option_map (λ s. s.now)) (slice_get_past xs i w.in_default.ensures.lookup.3)))
    ]
