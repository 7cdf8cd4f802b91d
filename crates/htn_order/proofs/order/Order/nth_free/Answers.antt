use Rattle.std.proofs.Common.{◌≡◌, ◌≢◌, ◌-◌, ◌+◌, length, sym, ap, ap₂, ◌∙◌, slice_get, arith, suc}
use Rattle.htn_model.specs.Choice.{is_free}
use Rattle.htn_model.specs.Problem.{is_before}
use Rattle.htn_order.proofs.Free.{nth_start, rest, rest_end, rest_fail, rest_pass}
use Rattle.htn_order.proofs.order.Order.nth_free.Goals as goal
use Rattle.htn_order.proofs.order.Order.nth_free.Goals.{then-is_free_by+else-left-eq0, else-is_free_by}

pub loop-position-init : goal.loop-position-init
loop-position-init c =
    let end = c.free_end-position-end in
    nth_start (is_free (length c.args.self.now) (is_before c.args.self.now)) (length c.args.self.now) end.result c.args.number end.ensures.within end.ensures.none

pub returns-then-left-eq0 : goal.returns-then-left-eq0
returns-then-left-eq0 c =
    let test = is_free (length c.args.self.now) (is_before c.args.self.now) in
    sym (c.loop-position.invariant
    ∙ ap₂ slice_get (rest_pass test c.loop-position.position c.free_end-position-end.result c.loop-position-test.true (sym c.is_free_by.ensures ∙ c.if-is_free_by.true)) c.if-left-eq0.true)

pub loop-position-preserved : goal.loop-position-preserved
loop-position-preserved c =
    let test = is_free (length c.args.self.now) (is_before c.args.self.now) in
    let position = c.loop-position.position in
    let end = c.free_end-position-end.result in
    elim c.if-is_free_by.branch [
      | then-is_free_by+else-left-eq0 w ↦ (let more : c.loop-position.left ≢ 0 = w.if-left-eq0.false in
          let less : c.loop-position.left ≡ suc (c.loop-position.left - 1) = omega arith in
          c.loop-position.invariant
          ∙ ap₂ slice_get (rest_pass test position end c.loop-position-test.true (sym c.is_free_by.ensures ∙ w.if-is_free_by.true)) less
          ∙ ap (slice_get (rest test (position + 1) (end - (position + 1)))) (sym w.left-is))
      | else-is_free_by w ↦
          c.loop-position.invariant
          ∙ ap₂ slice_get (rest_fail test position end c.loop-position-test.true (sym c.is_free_by.ensures ∙ w.if-is_free_by.false)) (sym w.left-is)
    ]

pub returns : goal.returns
returns c =
    let test = is_free (length c.args.self.now) (is_before c.args.self.now) in
    sym (c.loop-position.invariant
    ∙ ap (λ xs. slice_get xs c.loop-position.left) (rest_end test c.loop-position.position c.free_end-position-end.result c.loop-position-test.false))
