use Rattle.std.proofs.Common.{◌≡◌, ℕ, ◌<◌, Result, Ok, Err, IfOk, get_or, length, ap, sym, subst, ◌∙◌}
use Rattle.htn_order.specs.Counts.{AreCounted}
use Rattle.htn_order.specs.Forms.{order_of}
use Rattle.htn_order.specs.Shapes.{chain}
use Rattle.htn_order.proofs.Columns.{chain_counted}
use Rattle.htn_order.proofs.order.Order.predecessor_counts.Goals as goal

-- two facts on a value that is there give a third
both_ok : {T E : Type 0} (r : Result T E) (P Q R : T → Type 0) → ((v : T) → P v → Q v → R v) → IfOk r P → IfOk r Q → IfOk r R
both_ok (Ok v) P Q R f p q = f v p q
both_ok (Err e) P Q R f p q = p

pub returns-in-Chain : goal.returns-in-Chain
returns-in-Chain c =
    let n = c.in-Chain.size in
    let is : chain n ≡ c.args.self.now = sym (ap order_of c.in-Chain.is) ∙ c.self.view_is in
    both_ok c.numbers_below.result (λ v. length v.items ≡ n) (λ v. (i : ℕ) → i < n → get_or v.items i 0 ≡ i) (λ v. AreCounted c.args.self.now (length c.args.self.now) v.items)
    (λ v size each. subst (λ order. AreCounted order (length order) v.items) is (chain_counted n v.items size each))
    c.numbers_below.ensures.size c.numbers_below.ensures.each
