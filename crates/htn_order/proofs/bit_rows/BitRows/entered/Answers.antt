use Rattle.std.proofs.Common.{◌≡◌, ◌∙◌, ap, sym, eqb, length, arith}
use Rattle.std.proofs.lemmas.Nat.Bits.{bit_at-zero}
use Rattle.htn_model.specs.Choice.{is_empty, passing}
use Rattle.htn_model.specs.Problem.{is_before}
use Rattle.htn_order.proofs.RowWords.{entered_more}
use Rattle.htn_order.proofs.bit_rows.BitRows.entered.Goals as goal

pub loop-a-init : goal.loop-a-init
loop-a-init c = λ b. sym (ap (λ v. eqb v 0) (bit_at-zero b))

pub loop-a-preserved : goal.loop-a-preserved
loop-a-preserved c = λ b.
    entered_more (λ k. is_before c.args.self.now k b) c.loop-a.a c.loop-a.word c.row_word-word.result b (c.loop-a.invariant b) (c.row_word-word.ensures b)

pub returns : goal.returns
returns c = λ b.
    let end : c.loop-a.a ≡ length c.args.self.now =
    (let past = c.loop-a-test.false in let near = c.loop-a.auto.a-end in let n = c.size-a-end.ensures.value in omega arith) in
    ap (λ n. is_empty (passing (λ k. is_before c.args.self.now k b) n)) (sym end) ∙ c.loop-a.invariant b
