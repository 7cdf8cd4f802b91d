use Rattle.std.proofs.Common.{◌≡◌, ◌<◌, ◌+◌, ◌++◌, ℕ, true, false, length, get_or, drop, None, ap, ap₂, sym, ◌∙◌, arith}
use Rattle.plan_picture.specs.Order.{is_some, refilled}
use Rattle.plan_picture.proofs.Ordered.{step_other, step_line, all_refilled}
use Rattle.plan_picture.proofs.order.refilled.Goals.{then-next-others+then-has_action+in_ok-push, else-next-others+in_ok-push-2, else-next-others-via-then-next-others+else-has_action, else-next-others-via-else-next-others}
use Rattle.plan_picture.proofs.order.refilled.Goals as goal

pub loop-line-preserved : goal.loop-line-preserved
loop-line-preserved c =
    let first = λ (line : ℕ). get_or c.args.firsts.now line None in
    let listed = c.args.listed.now in
    let others = c.args.others.now in
    let i = c.loop-line.line-index in
    let next = c.loop-line.next in
    let so_far = c.loop-line.lines.items in
    let all = refilled first listed others in
    elim c.if-next-others.branch [
      | then-next-others+then-has_action+in_ok-push w ↦
          (let has : is_some (first (get_or listed i 0)) ≡ true = sym w.has_action.ensures ∙ w.if-has_action.true in
          let one = step_other first listed others so_far all i next c.loop-line-test.true w.if-next-others.true has c.loop-line.invariant.whole in
          let lines = ap (λ v. v.items) w.lines-is ∙ w.in_ok-push.ensures.items in
          record {
            within = omega (arith, w.next-is, w.if-next-others.true);
            whole = ap₂ (λ ls k. ls ++ refilled first (drop (i + 1) listed) (drop k others)) lines w.next-is ∙ one;
          })
      | else-next-others+in_ok-push-2 w ↦
          (let lacks : next < length others → is_some (first (get_or listed i 0)) ≡ false = λ low. elim w.else-next-others.branch [
            | else-next-others-via-then-next-others+else-has_action v ↦ sym v.has_action.ensures ∙ v.if-has_action.false
            | else-next-others-via-else-next-others v ↦ absurd (omega (arith, low, v.if-next-others.false))
          ] in
          let one = step_line first listed others so_far all i next c.loop-line-test.true lacks c.loop-line.invariant.whole in
          let lines = ap (λ v. v.items) w.lines-is ∙ w.in_ok-push-2.ensures.items in
          record {
            within = omega (arith, w.next-is, c.loop-line.invariant.within);
            whole = ap₂ (λ ls k. ls ++ refilled first (drop (i + 1) listed) (drop k others)) lines w.next-is ∙ one;
          })
    ]

pub returns : goal.returns
returns c =
    all_refilled (λ line. get_or c.args.firsts.now line None) c.args.listed.now c.args.others.now c.loop-line.lines.items
    (refilled (λ line. get_or c.args.firsts.now line None) c.args.listed.now c.args.others.now) c.loop-line.line-index c.loop-line.next (omega arith) c.loop-line.invariant.whole
