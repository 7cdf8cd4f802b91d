use Rattle.std.proofs.Common.{◌≡◌, ◌+◌, get_or, refl, ap₂, subst}
use Rattle.std.proofs.lemmas.List.Elements.{All-more}
use Rattle.call_table.specs.Lists.{list_at}
use Rattle.call_table.specs.Views.{IsMetAt}
use Rattle.call_table.specs.declared.call.Exit.{Exit}
use Rattle.call_table.proofs.Followed.{all_taken}
use Rattle.call_table.proofs.follow.are_exits_met.Goals as goal

pub loop-exit-preserved : goal.loop-exit-preserved
loop-exit-preserved c =
    let exit : Exit = get_or c.args.exits.now c.loop-exit.exit-index (record { state = 0; cost = 0 }) in
    let sum : c.from.result + c.from-in-loop-exit.result ≡ c.args.steps + exit.cost = ap₂ (λ a b. a + b) c.from.ensures c.from-in-loop-exit.ensures in
    All-more (λ (e : Exit). IsMetAt c.args.lists.now c.args.call.now e.state (list_at c.args.lists.now c.args.rest) (c.args.steps + e.cost)) c.args.exits.now
    c.loop-exit.exit-index (record { state = 0; cost = 0 }) c.loop-exit-test.true c.loop-exit.invariant
    (subst (IsMetAt c.args.lists.now c.args.call.now exit.state (list_at c.args.lists.now c.args.rest)) sum (c.is_met.ensures c.if-not-is_met.false))

pub returns : goal.returns
returns c = λ _.
    all_taken (λ (e : Exit). IsMetAt c.args.lists.now c.args.call.now e.state (list_at c.args.lists.now c.args.rest) (c.args.steps + e.cost)) c.args.exits.now
    c.args.exits.now c.loop-exit.exit-index refl c.loop-exit-test.false c.loop-exit.invariant
