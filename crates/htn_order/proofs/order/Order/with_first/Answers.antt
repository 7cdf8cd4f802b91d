use Rattle.std.proofs.Common.{◌-◌, ◌+◌, ◌∙◌, ap, length}
use Rattle.htn_model.specs.Machine.{replaced_order, table}
use Rattle.htn_order.proofs.Replaced.{first_of_two}
use Rattle.htn_order.proofs.order.Order.with_first.Goals as goal

pub returns : goal.returns
returns c =
    c.in_ok-order.ensures ∙ ap (λ two. table (length two - 1 + length c.args.self.now) (replaced_order two 1 (length c.args.self.now) c.args.self.now)) c.chain-two.ensures
    ∙ first_of_two c.args.self.now
