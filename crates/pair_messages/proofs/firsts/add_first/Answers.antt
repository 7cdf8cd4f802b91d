use Rattle.std.proofs.Common.{◌∙◌, Some, None, ap, sym, cond, is_some}
use Rattle.hddl_meaning.specs.Names.{is_same_text}
use Rattle.hddl_scope.specs.Numbers.{number_at}
use Rattle.hddl_scope.proofs.Repeating.{number_at-push}
use Rattle.hddl_scope.proofs.Positions.{kept_number, next_number}
use Rattle.pair_messages.proofs.FirstPlaces.{first_more}
use Rattle.pair_messages.proofs.firsts.add_first.Goals as goal

pub returns-then-is_some : goal.returns-then-is_some
returns-then-is_some c = λ names first t.
    let es = c.args.places.now in
    let m = c.args.mention.now in
    let known = c.get.ensures ∙ ap (number_at es) c.text.ensures in
    kept_number es m.text m.place (ap is_some (sym known) ∙ sym c.is_some.ensures ∙ c.if-is_some.true) t
    ∙ (λ i. cond (is_some (first t i)) (first t i) (cond (is_same_text t m.text) (Some m.place) None)) ∙ sym (first_more names m t)

pub returns : goal.returns
returns c = λ names first t.
    let es = c.args.places.now in
    let m = c.args.mention.now in
    ap (λ es. number_at es t) c.in_ok-add.ensures.ok ∙ number_at-push es c.text-2.result.now c.place.result t
    ∙ (λ i. next_number es (c.text-2.ensures i) (c.place.ensures i) t)
    ∙ (λ i. cond (is_some (first t i)) (first t i) (cond (is_same_text t m.text) (Some m.place) None)) ∙ sym (first_more names m t)
