use Rattle.std.proofs.Common.{◌∙◌, ◌<◌, ◌^◌, sym, ap, ap₂, refl, subst, arith, length, bit_and}
use Rattle.std.proofs.lemmas.Bool.{true≢false}
use Rattle.hddl_names.proofs.NumberBits.{words_meet, none_meet}
use Rattle.hddl_names.proofs.number_set.NumberSet.meets.Goals as goal

pub returns-then-word-ne0 : goal.returns-then-word-ne0
returns-then-word-ne0 c = (
  λ _. words_meet c.args.self.now c.args.other.now c.loop-k.k (subst (λ w. w < 2 ^ 64) c.word.ensures c.word.type_inv) (subst (λ w. w < 2 ^ 64) c.word-in-loop-k.ensures c.word-in-loop-k.type_inv)
      (λ none. c.if-word-ne0.true (ap₂ bit_and c.word.ensures c.word-in-loop-k.ensures ∙ none)),
  λ _. refl,
)

pub returns : goal.returns
returns c =
    let test = c.loop-k-test.false in
    let count = c.len-k-end.ensures in
    let view = ap length c.self.view_is in (
      λ e. absurd (true≢false (sym e)),
      λ (x, one, two). absurd (none_meet c.args.self.now c.args.other.now c.loop-k.k (omega (arith, test, count, view)) c.loop-k.invariant x one two),
    )
