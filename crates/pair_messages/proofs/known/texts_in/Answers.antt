use Rattle.std.proofs.Common.{◌≡◌, ◌<◌, ◌++◌, ◌∷◌, [], length, get_or, slice_get, take, Some, ap, sym, ◌∙◌, arith}
use Rattle.std.proofs.lemmas.List.{map_push, take_more}
use Rattle.std.proofs.lemmas.Option.{get_or_from_slice_get, none-some, slice_get-get_or}
use Rattle.diagnostics.specs.Near.{names_of}
use Rattle.pair_messages.proofs.known.texts_in.Goals as goal
use Rattle.pair_messages.proofs.known.texts_in.Goals.{in-Some+in_ok-push, in_default}

pub loop-number-preserved : goal.loop-number-preserved
loop-number-preserved c =
    let names = c.args.names.now in
    let k = c.loop-number.number in
    let h : k < length names = omega (arith, c.len-number-end.ensures.value) in
    elim c.match-get.branch [
      | in-Some+in_ok-push w ↦
          let text = w.in-Some.text in
          let is : slice_get names k ≡ Some text.now = sym w.in-Some.ensures.value in
          ap (λ v. names_of v.items) w.found-is ∙ ap names_of w.in_ok-push.ensures.items ∙ map_push (λ s. s.now) c.loop-number.found.items text
          ∙ ap (λ l. l ++ text.now ∷ []) c.loop-number.invariant
          ∙ ap (λ x. take k names ++ x ∷ []) (sym (get_or_from_slice_get names k text.now text.now is)) ∙ sym (take_more names k text.now h)
      | in_default w ↦ absurd (none-some (get_or names k []) (w.in_default.ensures.value ∙ slice_get-get_or names k [] h))
    ]
