use Rattle.std.proofs.Common.{◌≡◌, length, subst, arith}
use Rattle.htn_model.specs.Machine.{replaced_order}
use Rattle.htn_model.specs.Problem.{IsSquare}
use Rattle.htn_order.specs.Shapes.{IsRowAdded}
use Rattle.htn_order.proofs.TableRows.{rows_end, rows_more, rows_start}
use Rattle.htn_order.proofs.order.replaced_rows.Goals as goal

pub loop-a-init : goal.loop-a-init
loop-a-init c = rows_start (replaced_order c.args.order.now c.args.at (length c.args.inner.now) c.args.inner.now) c.args.size c.in_ok-rows.rows c.in_ok-rows.ensures

pub put_replaced_row-requires-clause-row : goal.put_replaced_row-requires-clause-row
put_replaced_row-requires-clause-row c = omega (arith, c.loop-a.invariant.0.0, c.loop-a-test.true)

pub loop-a-preserved : goal.loop-a-preserved
loop-a-preserved c =
    let test = replaced_order c.args.order.now c.args.at (length c.args.inner.now) c.args.inner.now in
    let size = c.loop-a.invariant.0.0 in
    rows_more test c.args.size c.loop-a.a c.loop-a.rows c.put_replaced_row.new.rows c.loop-a.invariant
    (subst (λ m. IsSquare m c.put_replaced_row.new.rows) size c.put_replaced_row.ensures.square)
    (subst (λ m. IsRowAdded test c.loop-a.a m c.loop-a.rows c.put_replaced_row.new.rows) size c.put_replaced_row.ensures.entries)

pub returns : goal.returns
returns c =
    let end : c.loop-a.a ≡ c.args.size = (let past = c.loop-a-test.false in let near = c.loop-a.auto.a-end in omega arith) in
    rows_end (replaced_order c.args.order.now c.args.at (length c.args.inner.now) c.args.inner.now) c.args.size c.loop-a.a c.loop-a.rows end c.loop-a.invariant
