use Rattle.std.proofs.Common.{◌<◌, length, sym, ap, arith}
use Rattle.htn_model.specs.Choice.{is_free}
use Rattle.htn_model.specs.Problem.{is_before}
use Rattle.htn_model.proofs.Passing.{passes}
use Rattle.htn_net.proofs.step.choose_free.Goals as goal

pub node_at-requires : goal.node_at-requires
node_at-requires c =
    let order = c.order.result.now in
    let low : c.in-Some.position < length order = (passes (is_free (length order) (is_before order)) (length order) c.args.number c.in-Some.position (sym c.in-Some.ensures)).0 in
    omega (arith, ap length c.order.ensures.value, c.order.ensures.proper.0)
