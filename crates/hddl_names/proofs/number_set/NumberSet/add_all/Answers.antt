use Rattle.std.proofs.Common.{◌∙◌, ◌<◌, ◌||◌, List, ℕ, ap, arith, length, bit_or, get_or}
use Rattle.std.proofs.lemmas.List.{get_or_read, length-set}
use Rattle.hddl_names.specs.NumberSets.{has}
use Rattle.hddl_names.proofs.NumberBits.{added_step, added_end, same_has}
use Rattle.hddl_names.proofs.number_set.NumberSet.add_all.Goals as goal

pub loop-k-preserved : goal.loop-k-preserved
loop-k-preserved c =
    let words = c.loop-k.self-inside.words.items in
    let long = c.loop-k.invariant.0 in
    let test = c.loop-k-test.true in
    let same = length-set words c.loop-k.k (bit_or c.index_mut.result.now c.index-more.result.now) in
    let fits : c.loop-k.k < length words = omega (arith, long, test) in
    let count = c.len-k-end.ensures in
    let within : c.loop-k.k < length c.other.inside.words.items = omega (arith, test, count) in (
      omega (arith, long, same),
      added_step c.self.inside.words.items c.args.other.now words c.loop-k.k c.index_mut.result.now c.index-more.result.now fits
          (get_or_read words c.loop-k.k c.index_mut.result.now fits c.index_mut.ensures.value 0)
          (get_or_read c.other.inside.words.items c.loop-k.k c.index-more.result.now within c.index-more.ensures 0 ∙ ap (λ (xs : List ℕ). get_or xs c.loop-k.k 0) c.other.view_is)
          c.loop-k.invariant.1,
    )

pub returns-clause-ok : goal.returns-clause-ok
returns-clause-ok c =
    let test = c.loop-k-test.false in
    let count = c.len-k-end.ensures in
    let view = ap length c.other.view_is in
    λ x. added_end c.self.inside.words.items c.args.other.now c.loop-k.self-inside.words.items c.loop-k.k (omega (arith, test, count, view)) c.loop-k.invariant.1 x
    ∙ ap (λ p. p || has c.args.other.now x)
    (ap (λ (xs : List ℕ). has xs x) c.self.view_is ∙ same_has c.widen.new.self c.args.self.now c.widen.ensures.same x)
