use Rattle.std.proofs.Common.{◌≡◌, ◌<◌, ℕ, length, sym, subst, ap, arith, ◌∙◌}
use Rattle.std.proofs.lemmas.Bool.{eqb-true, eq-eqb}
use Rattle.std.proofs.lemmas.List.{get_or_read}
use Rattle.plan_text.specs.Forest.{lists_of}
use Rattle.plan_text.specs.Reached.{AreAdded, children_at, IsReachedFrom}
use Rattle.plan_text.proofs.Reaching.{IsWalk, begun, passed, over}
use Rattle.plan_text.proofs.Walked.{at_most}
use Rattle.plan_text.proofs.walk.reaches_all.Goals as goal

pub loop-next-init : goal.loop-next-init
loop-next-init c = record {
  walk = begun c.args.actions c.args.roots.now (lists_of c.args.children.now) c.meet.new.met.items c.meet.new.lines.items c.in_ok-meet.ensures.walk
      (subst (λ xs. AreAdded xs c.meet.new.lines.items c.args.roots.now) c.new-lines.ensures.items c.in_ok-meet.ensures.added);
  size = c.in_ok-meet.ensures.size ∙ (let l = c.in_ok-met.ensures.len in let o = c.in_ok-met.met.ok.0 in omega arith);
}

pub loop-next-smaller : goal.loop-next-smaller
loop-next-smaller c =
    let walk = c.loop-next.invariant.walk in
    let most = at_most (length c.loop-next.met.items) c.loop-next.lines.items walk.are_met.once walk.are_met.within in
    let size = c.loop-next.invariant.size in
    let test = c.loop-next-test.true in
    let long = c.len.ensures in
    let all = c.loop-next.lines.ok.0 in
    omega arith

pub loop-next-preserved : goal.loop-next-preserved
loop-next-preserved c =
    let lists = lists_of c.args.children.now in
    let lines = c.loop-next.lines.items in
    let new = c.meet-in-loop-next.new.lines.items in
    let test = c.loop-next-test.true in
    let long = c.len.ensures in
    let all = c.loop-next.lines.ok.0 in
    let low : c.loop-next.next < length lines = omega arith in
    let line = get_or_read lines c.loop-next.next c.index-line.result.now low c.index-line.ensures 0 in
    let below = c.children_at-below.ensures ∙ ap (children_at c.args.actions lists) line in
    record {
      walk = passed c.args.actions c.args.roots.now lists c.loop-next.met.items c.meet-in-loop-next.new.met.items lines new c.loop-next.next c.loop-next.invariant.walk low
          c.in_ok-meet-2.ensures.walk (subst (AreAdded lines new) below c.in_ok-meet-2.ensures.added);
      size = c.in_ok-meet-2.ensures.size ∙ c.loop-next.invariant.size;
    }

pub returns : goal.returns
returns c =
    let lists = lists_of c.args.children.now in
    let met = c.loop-next.met.items in
    let lines = c.loop-next.lines.items in
    let walk = c.loop-next.invariant.walk in
    let size = c.loop-next.invariant.size in
    let test = c.loop-next-test.false in
    let long = c.len.ensures in
    let long_2 = c.len-2.ensures in
    let all = c.loop-next.lines.ok.0 in
    let within = walk.within in
    let end : c.loop-next.next ≡ length lines = omega arith in
    let whole = over c.args.actions c.args.roots.now lists met lines (subst (IsWalk c.args.actions c.args.roots.now lists met lines) end walk) in (
      (λ h. let e = eqb-true c.len-2.result c.args.count h in
          subst (λ n. (line : ℕ) → line < n → IsReachedFrom c.args.actions c.args.roots.now lists line) size (whole.1 (omega arith))),
      (λ h. let e = whole.0 (subst (λ n. (line : ℕ) → line < n → IsReachedFrom c.args.actions c.args.roots.now lists line) (sym size) h) in
          eq-eqb c.len-2.result c.args.count (omega arith)),
    )
