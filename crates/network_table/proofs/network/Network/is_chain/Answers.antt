use Rattle.std.proofs.Common.{◌≡◌, ◌∙◌, IsTrue, ap, arith, length, subst, sym}
use Rattle.htn_model.specs.Problem.{order_eq}
use Rattle.htn_model.specs.Equality.{order_eq-decides}
use Rattle.htn_order.specs.Shapes.{chain}
use Rattle.network_table.specs.Numbered.{Numbered}
use Rattle.network_table.specs.Entries.{IsChain}
use Rattle.network_table.proofs.network.Network.is_chain.Goals as goal

pub returns : goal.returns
returns c =
    let order = c.self.inside.order in
    let nodes = c.self.inside.nodes.items in
    let size : c.len.result ≡ length nodes = omega (arith, c.len.ensures, c.self.inside.nodes.ok) in
    let is : c.eq-2.result ≡ order_eq order (chain (length nodes)) = c.eq-2.ensures ∙ ap (order_eq order) (c.chain.ensures ∙ ap chain size) in
    let same = order_eq-decides order (chain (length nodes)) in
    subst (λ (n : Numbered). (IsTrue c.eq-2.result → IsChain n) × (IsChain n → IsTrue c.eq-2.result)) c.self.view_is (λ told. same.0 (sym is ∙ told), λ e. is ∙ same.1 e)
