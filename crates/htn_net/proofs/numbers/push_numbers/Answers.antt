use Rattle.std.proofs.Common.{◌≡◌, ◌+◌, ◌∷◌, ◌++◌, [], get_or, drop, refl, sym, ap, ◌∙◌, subst, append_assoc}
use Rattle.std.proofs.lemmas.List.{append-nil, drop_more, drop_all}
use Rattle.htn_walk.specs.Told.{FinishesListed, told}
use Rattle.htn_net.proofs.Numbered.{led_on}
use Rattle.htn_walk.proofs.Told.{next_chooses}
use Rattle.htn_net.proofs.numbers.push_numbers.Goals as goal

pub loop-rank-init : goal.loop-rank-init
loop-rank-init c = record {
  word = refl;
  leads = subst (λ x. FinishesListed c.args.task.now x c.args.ranks.now) (sym c.in_ok-config.ensures) c.requires.finishes;
}

pub one_rank-requires : goal.one_rank-requires
one_rank-requires c =
    let t = c.args.task.now in
    let ranks = c.args.ranks.now in
    let i = c.loop-rank.rank-index in
    let left : drop i ranks ≡ get_or ranks i 0 ∷ drop (i + 1) ranks = drop_more ranks i 0 c.loop-rank-test.true in
    next_chooses t c.loop-rank.config (get_or ranks i 0) (drop (i + 1) ranks) (subst (FinishesListed t c.loop-rank.config) left c.loop-rank.invariant.leads)

pub loop-rank-preserved : goal.loop-rank-preserved
loop-rank-preserved c =
    let t = c.args.task.now in
    let ranks = c.args.ranks.now in
    let at = c.loop-rank.config in
    let word = c.loop-rank.word.items in
    let i = c.loop-rank.rank-index in
    let rank = get_or ranks i 0 in
    let later = drop (i + 1) ranks in
    let left : drop i ranks ≡ rank ∷ later = drop_more ranks i 0 c.loop-rank-test.true in
    let next = c.in_ok-number.next in
    let on = led_on t at next rank later (subst (FinishesListed t at) left c.loop-rank.invariant.leads) c.in_ok-number.ensures.step in
    record {
      word =
          ap (λ w. w ++ told t next later) c.in_ok-push.ensures.items
          ∙ append_assoc word (c.in_ok-number.number ∷ []) (told t next later)
          ∙ ap (λ n. word ++ n ∷ told t next later) c.in_ok-number.ensures.number
          ∙ ap (λ l. word ++ l) (sym on.0)
          ∙ ap (λ l. word ++ told t at l) (sym left)
          ∙ c.loop-rank.invariant.word;
      leads = on.1;
    }

pub returns : goal.returns
returns c =
    let t = c.args.task.now in
    let ranks = c.args.ranks.now in
    let word = c.loop-rank.word.items in
    let none : drop c.loop-rank.rank-index ranks ≡ [] = drop_all c.loop-rank.rank-index ranks c.loop-rank-test.false in
    sym (append-nil word)
    ∙ ap (λ l. word ++ told t c.loop-rank.config l) (sym none)
    ∙ c.loop-rank.invariant.word
    ∙ ap (λ x. c.args.word.now.items ++ told t x ranks) c.in_ok-config.ensures
