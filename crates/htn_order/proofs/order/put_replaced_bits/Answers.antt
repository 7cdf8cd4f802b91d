use Rattle.std.proofs.Common.{◌≡◌, ◌∙◌, length, sym, subst, arith}
use Rattle.htn_model.specs.Machine.{replaced_order}
use Rattle.htn_model.specs.Problem.{IsSquare}
use Rattle.htn_order.specs.Shapes.{IsRowAdded}
use Rattle.htn_order.proofs.TableRows.{row_put, row_skip, row_start}
use Rattle.htn_order.proofs.order.put_replaced_bits.Goals as goal
use Rattle.htn_order.proofs.order.put_replaced_bits.Goals.{then-is_before_replaced, else-is_before_replaced}

pub loop-b-init : goal.loop-b-init
loop-b-init c = (
  c.size-b-end.ensures.square,
  row_start (replaced_order c.args.order.now c.args.at (length c.args.inner.now) c.args.inner.now) c.args.a c.args.rows.now,
)

pub put_before-requires-clause-first : goal.put_before-requires-clause-first
put_before-requires-clause-first c = omega (arith, c.loop-b.invariant.0.0, c.requires.row)

pub put_before-requires-clause-second : goal.put_before-requires-clause-second
put_before-requires-clause-second c = omega (arith, c.loop-b.invariant.0.0, c.size-b-end.ensures.value, c.loop-b-test.true)

pub loop-b-preserved : goal.loop-b-preserved
loop-b-preserved c =
    let test = replaced_order c.args.order.now c.args.at (length c.args.inner.now) c.args.inner.now in
    let n = length c.args.rows.now in
    elim c.if-is_before_replaced.branch [
      | then-is_before_replaced w ↦ (
        subst (IsSquare n) (sym w.rows-is) (subst (λ m. IsSquare m w.put_before.new.self) c.loop-b.invariant.0.0 w.put_before.ensures.square),
        subst (IsRowAdded test c.args.a _ c.args.rows.now) (sym w.rows-is)
            (row_put test c.args.a c.loop-b.b c.args.rows.now c.loop-b.rows w.put_before.new.self (sym c.is_before_replaced.ensures ∙ w.if-is_before_replaced.true) c.loop-b.invariant.1
            w.put_before.ensures.entries),
      )
      | else-is_before_replaced w ↦ (
        subst (IsSquare n) (sym w.rows-is) c.loop-b.invariant.0,
        subst (IsRowAdded test c.args.a _ c.args.rows.now) (sym w.rows-is)
            (row_skip test c.args.a c.loop-b.b c.args.rows.now c.loop-b.rows (sym c.is_before_replaced.ensures ∙ w.if-is_before_replaced.false) c.loop-b.invariant.1),
      )
    ]

pub returns-clause-square : goal.returns-clause-square
returns-clause-square c = c.loop-b.invariant.0

pub returns-clause-entries : goal.returns-clause-entries
returns-clause-entries c =
    let end : c.loop-b.b ≡ length c.args.rows.now = (let past = c.loop-b-test.false in let near = c.loop-b.auto.b-end in let n = c.size-b-end.ensures.value in omega arith) in
    subst (λ k. IsRowAdded (replaced_order c.args.order.now c.args.at (length c.args.inner.now) c.args.inner.now) c.args.a k c.args.rows.now c.loop-b.rows) end c.loop-b.invariant.1
