use Rattle.std.proofs.Common.{◌≡◌, ◌+◌, ◌-◌, ◌<◌, ◌≤◌, ◌^◌, ◌∙◌, ap, ap₂, sym, length, arith}
use Rattle.std.proofs.Math.Nat.{pow-le-pow_right}
use Rattle.htn_model.specs.Problem.{is_before}
use Rattle.htn_order.specs.BitRows.{is_set}
use Rattle.htn_order.specs.Forms.{order_of}
use Rattle.htn_order.specs.Shapes as shapes
use Rattle.htn_order.proofs.Chains.{chain_size}
use Rattle.htn_order.proofs.WordBits.{is_set-chain}
use Rattle.htn_order.proofs.order.Order.row_word.Goals as goal

pub ones-requires : goal.ones-requires
ones-requires c =
    let n = c.in-Chain.size in
    let outer : shapes.chain n ≡ c.args.self.now = ap order_of (sym c.in-Chain.is) ∙ c.self.view_is in
    omega (arith, chain_size n, ap length outer, c.requires.few)

pub overflow_sub-result : goal.overflow_sub-result
overflow_sub-result c =
    let n = c.in-Chain.size in
    let outer : shapes.chain n ≡ c.args.self.now = ap order_of (sym c.in-Chain.is) ∙ c.self.view_is in
    let row : c.args.a + 1 ≤ n = omega (arith, chain_size n, ap length outer, c.requires.row) in
    let less : 2 ^ (c.args.a + 1) ≤ 2 ^ n = pow-le-pow_right {n = 2} (omega arith) {i = c.args.a + 1} {j = n} row in
    omega (arith, less, c.ones.ensures, c.ones-in-Chain.ensures)

pub returns-in-Chain : goal.returns-in-Chain
returns-in-Chain c =
    let n = c.in-Chain.size in
    let outer : shapes.chain n ≡ c.args.self.now = ap order_of (sym c.in-Chain.is) ∙ c.self.view_is in
    let row : c.args.a < n = omega (arith, chain_size n, ap length outer, c.requires.row) in
    λ b. ap₂ (λ v w. is_set (v - w) b) c.ones.ensures c.ones-in-Chain.ensures
    ∙ is_set-chain n c.args.a b row
    ∙ ap (λ order. is_before order c.args.a b) outer
