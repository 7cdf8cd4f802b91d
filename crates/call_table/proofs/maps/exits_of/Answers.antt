use Rattle.std.proofs.Common.{get_or, Contains, subst}
use Rattle.std.proofs.lemmas.List.Elements.{Contains-get_or}
use Rattle.call_table.specs.declared.call.Exit.{Exit}
use Rattle.call_table.proofs.Looked.{no_exits, exit_more}
use Rattle.call_table.proofs.maps.exits_of.Goals as goal

pub loop-exit-init : goal.loop-exit-init
loop-exit-init c = no_exits c.args.call.now c.in_ok-found.found c.in_ok-found.ensures.empty

pub loop-exit-preserved : goal.loop-exit-preserved
loop-exit-preserved c =
    let exit : Exit = get_or c.deref-exit-items.result.now c.loop-exit.exit-index (record { state = 0; cost = 0 }) in
    exit_more c.args.call.now c.loop-exit.found c.insert.new.self exit
    (subst (λ xs. Contains xs exit) c.deref-exit-items.ensures.value
    (Contains-get_or c.deref-exit-items.result.now c.loop-exit.exit-index (record { state = 0; cost = 0 }) c.loop-exit-test.true))
    c.loop-exit.invariant c.in_ok-insert.ensures.updates.0
