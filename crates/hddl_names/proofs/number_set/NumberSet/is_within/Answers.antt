use Rattle.std.proofs.Common.{◌∙◌, ◌<◌, ◌^◌, sym, ap, ap₂, refl, subst, arith, length, bit_or}
use Rattle.std.proofs.lemmas.Bool.{true≢false}
use Rattle.hddl_names.proofs.NumberBits.{all_within, within_words}
use Rattle.hddl_names.proofs.number_set.NumberSet.is_within.Goals as goal

pub returns-then-word : goal.returns-then-word
returns-then-word c = (
  λ e. absurd (true≢false (sym e)),
  λ within. absurd (c.if-word.true
      (ap₂ bit_or c.word.ensures c.word-in-loop-k.ensures
      ∙ within_words c.args.self.now c.args.other.now c.loop-k.k (subst (λ w. w < 2 ^ 64) c.word.ensures c.word.type_inv) (subst (λ w. w < 2 ^ 64) c.word-in-loop-k.ensures c.word-in-loop-k.type_inv) within
      ∙ sym c.word-in-loop-k-2.ensures)),
)

pub returns : goal.returns
returns c =
    let test = c.loop-k-test.false in
    let count = c.len-k-end.ensures in
    let view = ap length c.self.view_is in
    (λ _. all_within c.args.self.now c.args.other.now c.loop-k.k (omega (arith, test, count, view)) c.loop-k.invariant, λ _. refl)
