use Rattle.std.proofs.Common.{◌≡◌, ◌∙◌, [], Some, ap, subst, sym}
use Rattle.std.proofs.lemmas.List.{take_all}
use Rattle.hddl_scope.specs.Numbers.{number_at}
use Rattle.hddl_scope.specs.Repeats.{repeat_of}
use Rattle.hddl_scope.proofs.Repeating.{Listed-repeats, Read, Read-start, Read-step, with_place}
use Rattle.hddl_scope.proofs.repeated.repeats.Goals as goal
use Rattle.hddl_scope.proofs.repeated.repeats.Goals.{in-Some+in_ok-push, in_default}

pub loop-mention-init : goal.loop-mention-init
loop-mention-init c =
    subst (λ es. Read es [] c.new-places.result.items) (sym c.in_ok-known.ensures) (subst (Read [] []) (sym c.new-places.ensures.items) Read-start)

pub loop-mention-preserved : goal.loop-mention-preserved
loop-mention-preserved c =
    let m = c.mention-item.result in
    let places = c.loop-mention.places.items in
    let told = c.get-first.ensures ∙ ap (number_at c.loop-mention.known) c.text.ensures in
    let next : c.match-first.places.items ≡ with_place places (repeat_of c.get-first.result m.place) =
    elim c.match-first.branch [
      | in-Some+in_ok-push w ↦
          ap (λ v. v.items) w.places-is ∙ w.in_ok-push.ensures.items ∙ ap (λ n. with_place places (Some n)) w.max.ensures
          ∙ ap (λ n. with_place places (repeat_of (Some w.in-Some.first) n)) w.place.ensures
          ∙ ap (λ o. with_place places (repeat_of o m.place)) (sym w.in-Some.is)
      | in_default w ↦ ap (λ v. v.items) w.places-is ∙ ap (λ o. with_place places (repeat_of o m.place)) (sym w.in_default.is)
    ] in
    Read-step c.loop-mention.known c.note_after.new.known c.args.mentions.now c.loop-mention.mention-index m c.get-first.result places c.match-first.places.items
    c.loop-mention-test.true c.mention-item.is told next c.in_ok-note_after.ensures c.loop-mention.invariant

pub returns : goal.returns
returns c =
    let read = subst (λ ms. Read c.loop-mention.known ms c.loop-mention.places.items) (take_all c.loop-mention.mention-index c.args.mentions.now c.loop-mention-test.false) c.loop-mention.invariant in
    Listed-repeats c.args.mentions.now c.loop-mention.places.items read.listed
