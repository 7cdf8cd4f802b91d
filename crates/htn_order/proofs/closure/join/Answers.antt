use Rattle.std.proofs.Common.{◌≡◌, ◌<◌, ◌≤◌, ◌∙◌, length, sym, subst, arith}
use Rattle.htn_model.specs.Problem.{IsSquare}
use Rattle.htn_order.proofs.JoinLoop.{JoinedBelow, below_end, below_put, below_skip, below_start, not_b}
use Rattle.htn_order.proofs.closure.join.Goals as goal
use Rattle.htn_order.proofs.closure.join.Goals.{then-is_at_or_before, else-is_at_or_before}

pub loop-x-init : goal.loop-x-init
loop-x-init c = below_start c.args.rows.now c.args.a c.args.b c.size-x-end.ensures.square

pub put_before_row-requires-then-is_at_or_before-clause-first : goal.put_before_row-requires-then-is_at_or_before-clause-first
put_before_row-requires-then-is_at_or_before-clause-first c = omega (arith, c.loop-x.invariant.0.0, c.size-x-end.ensures.value, c.loop-x-test.true)

pub put_before_row-requires-then-is_at_or_before-clause-second : goal.put_before_row-requires-then-is_at_or_before-clause-second
put_before_row-requires-then-is_at_or_before-clause-second c = omega (arith, c.loop-x.invariant.0.0, c.requires.second)

pub put_before_row-requires-then-is_at_or_before-clause-apart : goal.put_before_row-requires-then-is_at_or_before-clause-apart
put_before_row-requires-then-is_at_or_before-clause-apart c =
    not_b c.args.rows.now c.args.a c.args.b c.loop-x.x c.loop-x.rows c.requires.apart c.requires.behind c.loop-x.invariant
    (sym c.is_at_or_before.ensures ∙ c.if-is_at_or_before.true)

pub put_before-requires-then-is_at_or_before-clause-first : goal.put_before-requires-then-is_at_or_before-clause-first
put_before-requires-then-is_at_or_before-clause-first c =
    omega (arith, c.put_before_row-then-is_at_or_before.ensures.square.0, c.loop-x.invariant.0.0, c.size-x-end.ensures.value, c.loop-x-test.true)

pub put_before-requires-then-is_at_or_before-clause-second : goal.put_before-requires-then-is_at_or_before-clause-second
put_before-requires-then-is_at_or_before-clause-second c =
    omega (arith, c.put_before_row-then-is_at_or_before.ensures.square.0, c.loop-x.invariant.0.0, c.requires.second)

pub loop-x-preserved : goal.loop-x-preserved
loop-x-preserved c =
    let old = c.args.rows.now in
    let low : c.loop-x.x < length old = (let n = c.size-x-end.ensures.value in let t = c.loop-x-test.true in omega arith) in
    elim c.if-is_at_or_before.branch [
      | then-is_at_or_before w ↦ (let row = w.put_before_row-then-is_at_or_before in
          let last = w.put_before-then-is_at_or_before in
          let size : length row.new.self ≡ length old = row.ensures.square.0 ∙ c.loop-x.invariant.0.0 in
          subst (JoinedBelow old c.args.a c.args.b _) (sym w.rows-is)
          (below_put old c.args.a c.args.b c.loop-x.x c.loop-x.rows row.new.self last.new.self low c.requires.apart c.requires.behind c.loop-x.invariant
          (sym c.is_at_or_before.ensures ∙ w.if-is_at_or_before.true) (subst (λ n. IsSquare n last.new.self) size last.ensures.square) row.ensures.entries last.ensures.entries))
      | else-is_at_or_before w ↦ subst (JoinedBelow old c.args.a c.args.b _) (sym w.rows-is)
          (below_skip old c.args.a c.args.b c.loop-x.x c.loop-x.rows c.loop-x.invariant (sym c.is_at_or_before.ensures ∙ w.if-is_at_or_before.false))
    ]

pub returns-clause-square : goal.returns-clause-square
returns-clause-square c = c.loop-x.invariant.0

pub returns-clause-joined : goal.returns-clause-joined
returns-clause-joined c =
    let past : length c.args.rows.now ≤ c.loop-x.x = (let n = c.size-x-end.ensures.value in let t = c.loop-x-test.false in omega arith) in
    below_end c.args.rows.now c.args.a c.args.b c.loop-x.x c.loop-x.rows c.requires.first c.size-x-end.ensures.square past c.loop-x.invariant
