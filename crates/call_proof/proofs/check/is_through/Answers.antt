use Rattle.std.proofs.Common.{◌+◌, All, subst, arith}
use Rattle.call_table.specs.Lists.{list_at}
use Rattle.call_table.specs.Views.{IsMetAt}
use Rattle.call_table.specs.declared.call.Exit.{Exit}
use Rattle.call_proof.proofs.check.is_through.Goals as goal

pub returns-clause-floor : goal.returns-clause-floor
returns-clause-floor c = λ _.
    (let steps = c.from.ensures in
    let inner = c.from-2.ensures in
    let own = c.from-3.ensures in
    let sum = c.saturating_add.ensures in
    let low = c.if-from-saturating_add.false in
    let few = c.nodes.ensures in
    omega arith)

pub returns-clause-exits : goal.returns-clause-exits
returns-clause-exits c = λ is.
    subst
    (All (λ (e : Exit). IsMetAt c.args.lists.now c.args.call.now e.state (list_at c.args.lists.now c.args.rest) (c.args.steps + e.cost)))
    c.deref.ensures.value (c.are_exits_met.ensures is)
