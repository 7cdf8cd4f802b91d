use Rattle.std.proofs.Common.{◌++◌, ◌∷◌, [], List, ℕ, ap, length, subst, sym, arith}
use Rattle.std.proofs.lemmas.List.{length-append}
use Rattle.state_table.proofs.Words.{AreMixed, mixed_has, mixed_more, mixed_small, none_mixed}
use Rattle.state_table.proofs.bits.mixed.Goals as goal

pub loop-k-init : goal.loop-k-init
loop-k-init c = (
  sym (ap length c.in_ok-mixed.ensures.items),
  subst (λ (ws : List ℕ). AreMixed ws c.args.words.now c.args.mask.now c.args.part.now) (sym c.in_ok-mixed.ensures.items)
      (none_mixed c.args.words.now c.args.mask.now c.args.part.now),
)

pub loop-k-preserved : goal.loop-k-preserved
loop-k-preserved c =
    let items = c.loop-k.mixed.items in
    let words = c.args.words.now in
    let mask = c.args.mask.now in
    let part = c.args.part.now in
    let before = c.loop-k.invariant in (
      let is = ap length c.in_ok-push.ensures.ok in let long = length-append items (c.mixed_word.result ∷ []) in
          let same = before.0 in omega (arith, is, long, same),
      subst (λ (ws : List ℕ). AreMixed ws words mask part) (sym c.in_ok-push.ensures.ok)
          (subst (λ (w : ℕ). AreMixed (items ++ w ∷ []) words mask part) (sym c.mixed_word.ensures)
          (mixed_more items words mask part c.loop-k.k before.0 before.1)),
    )

pub returns-clause-small : goal.returns-clause-small
returns-clause-small c =
    mixed_small c.loop-k.mixed.items c.args.words.now c.args.mask.now c.args.part.now c.requires.words c.requires.part
    c.loop-k.invariant.1

pub returns-clause-has : goal.returns-clause-has
returns-clause-has c =
    let same = c.loop-k.invariant.0 in
    let past = c.loop-k-test.false in
    let one = c.most-count.ensures.one in
    let other = c.most-count.ensures.other in
    mixed_has c.loop-k.mixed.items c.args.words.now c.args.mask.now c.args.part.now (omega (arith, same, past, one))
    (omega (arith, same, past, other)) c.requires.mask c.loop-k.invariant.1
