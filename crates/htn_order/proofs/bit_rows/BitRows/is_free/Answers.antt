use Rattle.std.proofs.Common.{◌<◌, length, sym, ◌∙◌, arith}
use Rattle.htn_model.specs.Problem.{is_before}
use Rattle.htn_order.proofs.Free.{one_fails, some_before}
use Rattle.htn_order.proofs.bit_rows.BitRows.is_free.Goals as goal

pub returns-then-is_before : goal.returns-then-is_before
returns-then-is_before c =
    let low : c.loop-a.a < length c.args.self.now = (let n = c.size-a-end.ensures.value in let t = c.loop-a-test.true in omega arith) in
    some_before (length c.args.self.now) (is_before c.args.self.now) c.args.position c.loop-a.a low (sym c.is_before.ensures ∙ c.if-is_before.true)

pub loop-a-preserved : goal.loop-a-preserved
loop-a-preserved c =
    one_fails (λ a. is_before c.args.self.now a c.args.position) c.loop-a.a (sym c.is_before.ensures ∙ c.if-is_before.false) ∙ c.loop-a.invariant
