use Rattle.std.proofs.Common.{◌∙◌, ap, get_or, subst, sym}
use Rattle.std.specs.List.{All}
use Rattle.std.proofs.lemmas.List.Elements.{All-push}
use Rattle.pair_messages.specs.declared.asked.Asked.{Asked}
use Rattle.pair_messages.specs.Notes.{IsAsked}
use Rattle.pair_messages.proofs.asked.picked.Goals as goal
use Rattle.pair_messages.proofs.asked.picked.Goals.{in-Some+in_ok-push, in_default}

pub loop-number-preserved : goal.loop-number-preserved
loop-number-preserved c = λ n all.
    let i = get_or c.args.numbers.now c.loop-number.number-index 0 in
    elim c.match-get.branch [
      | in-Some+in_ok-push w ↦
          let pair = w.in-Some.pair.now in
          let asked = subst (λ (x : Asked). IsAsked n x) (sym w.in-Some.ensures.lookup.1) (all i pair w.in-Some.ensures.lookup.3.0) in
          subst (All (IsAsked n)) (sym (ap (λ v. v.items) w.found-is ∙ w.in_ok-push.ensures.items))
          (All-push (IsAsked n) c.loop-number.found.items pair (c.loop-number.invariant n all) asked)
      | in_default w ↦ subst (All (IsAsked n)) (sym (ap (λ v. v.items) w.found-is)) (c.loop-number.invariant n all)
    ]
