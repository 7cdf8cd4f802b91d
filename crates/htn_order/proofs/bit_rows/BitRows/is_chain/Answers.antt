use Rattle.std.proofs.Common.{◌<◌, ◌≤◌, ◌∙◌, sym, length, arith, refl}
use Rattle.htn_order.proofs.Chains.{chain_from_next, next_more, next_start, no_chain}
use Rattle.htn_order.proofs.bit_rows.BitRows.is_chain.Goals as goal

pub loop-b-init : goal.loop-b-init
loop-b-init c = next_start c.args.self.now

pub returns-then-not-is_before : goal.returns-then-not-is_before
returns-then-not-is_before c =
    let high : c.loop-b.b < length c.args.self.now = (let n = c.size-b-end.ensures.value in let t = c.loop-b-test.true in omega arith) in (
      λ t. absurd cc,
      λ e. absurd (no_chain c.args.self.now c.loop-b.b c.loop-b.auto.b high (sym c.is_before.ensures ∙ c.if-not-is_before.true) e),
    )

pub loop-b-preserved : goal.loop-b-preserved
loop-b-preserved c = next_more c.args.self.now c.loop-b.b c.loop-b.invariant (sym c.is_before.ensures ∙ c.if-not-is_before.false)

pub returns : goal.returns
returns c =
    let past : length c.args.self.now ≤ c.loop-b.b = (let n = c.size-b-end.ensures.value in let t = c.loop-b-test.false in omega arith) in (
      λ t. chain_from_next c.args.self.now c.requires c.size-b-end.ensures.square c.loop-b.b past c.loop-b.invariant,
      λ e. refl,
    )
