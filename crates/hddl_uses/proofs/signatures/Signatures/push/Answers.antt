use Rattle.std.proofs.Common.{◌≡◌, ◌∙◌, ◌++◌, ◌∷◌, [], ap, sym, length, refl, is_some}
use Rattle.std.proofs.lemmas.List.{map-append}
use Rattle.hddl_meaning.specs.Mentions.{folded}
use Rattle.hddl_meaning.specs.Items.{signature}
use Rattle.hddl_scope.specs.Numbers.{number_at}
use Rattle.hddl_uses.specs.Tables.{lists_of}
use Rattle.hddl_scope.proofs.Repeating.{number_at-push}
use Rattle.hddl_scope.proofs.Positions.{kept_number, next_number}
use Rattle.hddl_uses.proofs.Tabling.{one_more}
use Rattle.hddl_uses.proofs.signatures.Signatures.push.Goals.{then-is_none+in_ok-add, else-is_none}
use Rattle.hddl_uses.proofs.signatures.Signatures.push.Goals as goal

pub returns : goal.returns
returns c = λ signatures table.
    let old = c.args.self.now in
    let named = folded c.args.name.now.text in
    let text_is : c.in_ok-text.text ≡ named = c.in_ok-text.ensures ∙ ap folded c.text.ensures.value in
    let known : c.get.result ≡ number_at old.numbers named = c.get.ensures ∙ ap (number_at old.numbers) (c.as_slice.ensures ∙ text_is) in
    let long : old.places.len ≡ length old.places.items = old.places.ok.0 in
    let kept : c.if-is_none.self.places.items ≡ old.places.items =
    elim c.if-is_none.branch [ then-is_none+in_ok-add w ↦ ap (λ s. s.places.items) w.self-is | else-is_none w ↦ ap (λ s. s.places.items) w.self-is ] in
    one_more signatures (signature c.args.name.now c.args.groups.now) old _ (length old.places.items) refl
    (elim c.if-is_none.branch [
      | then-is_none+in_ok-add w ↦ λ t.
          ap (λ s. number_at s.numbers t) w.self-is ∙ ap (λ es. number_at es t) w.in_ok-add.ensures.ok
          ∙ number_at-push old.numbers w.as_slice-then-is_none.result.now w.len.result t
          ∙ (λ i. next_number old.numbers ((w.as_slice-then-is_none.ensures ∙ text_is) i) ((w.len.ensures ∙ long) i) t)
      | else-is_none w ↦ λ t.
          ap (λ s. number_at s.numbers t) w.self-is
          ∙ kept_number old.numbers named (length old.places.items) (ap is_some (sym known) ∙ w.if-is_none.ensures) t
    ])
    (ap lists_of c.in_ok-push.ensures.items ∙ (λ i. lists_of (kept i ++ c.in_ok-places.places ∷ [])) ∙ map-append (λ v. v.items) old.places.items (c.in_ok-places.places ∷ [])
    ∙ (λ i. lists_of old.places.items ++ c.in_ok-places.ensures i ∷ []))
    table
