use Rattle.std.proofs.Common.{◌≡◌, ℕ, inl, inr, bit_and, get_or, sym, subst, arith}
use Rattle.std.specs.Int.{bit_not, w64}
use Rattle.std.proofs.lemmas.Bool.{cases_lt}
use Rattle.state_table.proofs.Words.{inside_has}
use Rattle.state_table.proofs.bits.are_bits_in.Goals as goal

pub loop-k-preserved : goal.loop-k-preserved
loop-k-preserved c = λ j less. elim (cases_lt j c.loop-k.k) [
  | inl before ↦ c.loop-k.invariant j before
  | inr more ↦
      (let same : j ≡ c.loop-k.k = omega (arith, less, more) in
      subst (λ (i : ℕ). bit_and (get_or c.args.words.now i 0) (bit_not w64 (get_or c.args.others.now i 0)) ≡ 0) (sym same)
      (c.is_word_in.ensures c.if-not-is_word_in.false))
]

pub returns : goal.returns
returns c = λ _.
    inside_has c.args.words.now c.args.others.now c.requires (λ k less. c.loop-k.invariant k (omega (arith, less, c.loop-k-test.false)))
