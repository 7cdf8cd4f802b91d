use Rattle.std.proofs.Common.{◌≡◌, ◌∙◌, ap, sym}
use Rattle.hddl_meaning.specs.Mentions.{folded}
use Rattle.hddl_scope.specs.Numbers.{number_at}
use Rattle.pair_messages.proofs.asked.asked_by.Goals as goal

pub returns-in-Some-Some : goal.returns-in-Some-Some
returns-in-Some-Some c =
    let es = c.args.numbers.now in
    let o = c.args.ordering.now in
    let first : c.get.result ≡ number_at es (folded o.before.text) =
    c.get.ensures ∙ ap (number_at es) (c.as_slice.ensures ∙ c.in_ok-before.ensures ∙ ap folded c.text.ensures.value) in
    let second : c.get-2.result ≡ number_at es (folded o.after.text) =
    c.get-2.ensures ∙ ap (number_at es) (c.as_slice-2.ensures ∙ c.in_ok-after.ensures ∙ ap folded c.text-2.ensures.value) in
    λ n numbered among.
    (among, sym (numbered (folded o.before.text)) ∙ sym first ∙ c.in-Some-Some.is-0, sym (numbered (folded o.after.text)) ∙ sym second ∙ c.in-Some-Some.is-1)
