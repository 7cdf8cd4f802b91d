use Rattle.std.proofs.Common.{◌≡◌, ◌∙◌, ap, sym, cond, is_some, Some, None, Option}
use Rattle.hddl_words.specs.Names.{Name}
use Rattle.hddl_meaning.specs.Mentions.{folded}
use Rattle.hddl_meaning.specs.Networks.{is_text}
use Rattle.hddl_scope.specs.Numbers.{number_at}
use Rattle.hddl_scope.proofs.Repeating.{number_at-push}
use Rattle.hddl_scope.proofs.Positions.{kept_number, next_number}
use Rattle.pair_messages.proofs.asked.number_label.Goals.{then-is_none+in_ok-add, else-is_none}
use Rattle.pair_messages.proofs.asked.number_label.Goals as goal

pub returns-after-is_none : goal.returns-after-is_none
returns-after-is_none c =
    let es = c.args.numbers.now in
    let n = c.args.number in
    let named = folded c.in-Some.name.text in
    let text_is : c.in_ok-text.text ≡ named = c.in_ok-text.ensures ∙ ap folded c.text.ensures.value in
    let known : c.get.result ≡ number_at es named = c.get.ensures ∙ ap (number_at es) (c.as_slice.ensures ∙ text_is) in
    λ t.
    elim c.if-is_none.branch [
      | then-is_none+in_ok-add w ↦
          ap (λ es. number_at es t) (w.numbers-is ∙ w.in_ok-add.ensures.ok) ∙ number_at-push es w.as_slice-then-is_none.result.now n t
          ∙ ap (λ u. next_number es u n t) (w.as_slice-then-is_none.ensures ∙ text_is)
      | else-is_none w ↦ ap (λ es. number_at es t) w.numbers-is ∙ kept_number es named n (ap is_some (sym known) ∙ w.if-is_none.ensures) t
    ]
    ∙ sym (ap (λ (o : Option Name). cond (is_some (number_at es t)) (number_at es t) (cond (is_text t o) (Some n) None)) c.in-Some.is)
