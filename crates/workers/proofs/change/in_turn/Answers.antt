use Rattle.std.proofs.Common.{◌<◌, ◌+◌, length, ℕ}
use mathlib.Core.Path.{sym, subst, ◌∙◌}
use native.Mathlib.Omega.{arith}
use lib.ListN.{get_or, set, length-set}
use borrow.Author.Count.{below_more}
use Rattle.std.proofs.lemmas.List.{get_or-set_same, get_or-set_other, get_or_default}
use Rattle.std.specs.Fork.{ChangesAt}
use Rattle.workers.proofs.change.in_turn.Goals as goal

-- the place of this turn is changed, and no other
pub loop-k-preserved : goal.loop-k-preserved
loop-k-preserved g c =
    let k = c.loop-k.k in let xs = c.args.s.now in let ys = c.loop-k.s in let y = c.at_one.new.it in
    let R : ℕ → g.row.T.Denot → g.row.T.Denot → Type 0 = λ j. ChangesAt g.F.Fn c.args.f.now (c.args.first + j) in
    let same = c.loop-k.invariant.0 in
    let l : k < length ys = omega arith in (
      length-set ys k y ∙ same,
      λ j d h. get_or-set_other ys k j y d (λ e. omega arith) ∙ c.loop-k.invariant.1 j d (omega arith),
      λ j d h. below_more (λ i. R i (get_or xs i d) (get_or (set ys k y) i d)) k
          (λ i u. subst (R i (get_or xs i d)) (sym (get_or-set_other ys k i y d (λ e. omega arith))) (c.loop-k.invariant.2 i d u))
          (subst (R k (get_or xs k d)) (sym (get_or-set_same ys k y d l))
          (subst (λ x. R k x y) (get_or_default ys k _ d l ∙ c.loop-k.invariant.1 k d (omega arith)) c.at_one.ensures))
          j h,
    )
