use Rattle.std.proofs.Common.{Option, ◌≡◌, ◌∙◌, ℕ, List, map, get_or, IfSome, ap, subst}
use Rattle.call_rules.specs.Frame.{lift}
use Rattle.state_table.specs.Table.{IsTable, state_of}
use Rattle.call_proof.specs.Masks.{frame_of}
use Rattle.call_table.specs.declared.call.Exit.{Exit}
use Rattle.call_nodes.specs.Nodes.{state_at}
use Rattle.call_proof.specs.Parts.{exit_at, exit_in}
use Rattle.call_proof.proofs.Lifting.{all_mapped, exit_is, one_more_mapped}
use Rattle.call_proof.proofs.whole.whole_exits.Goals as goal

pub loop-exit-preserved : goal.loop-exit-preserved
loop-exit-preserved c = λ table.
    (let n = c.args.nodes.now in
    let mask = c.args.mask.now in
    let whole = c.args.whole.now in
    let none : Exit = record { state = 0; cost = 0 } in
    let exit : Exit = get_or c.args.exits.now c.loop-exit.exit-index none in
    let made : Exit = record { state = c.in-Some.state; cost = exit.cost } in
    let is = subst (λ (o : Option ℕ). IfSome o (λ (k : ℕ). IsTable n.atoms
    → state_at n k ≡ lift (frame_of n.atoms mask) (state_of n.atoms whole) (state_at n exit.state))) c.in-Some.is c.in_ok-state.ensures in
    ap (λ (l : List Exit). map (exit_at n) l) c.in_ok-push.ensures.items
    ∙ one_more_mapped (exit_at n) (exit_in n mask whole) c.args.exits.now c.loop-exit.exit-index none
    c.loop-exit.found.items made c.loop-exit-test.true (c.loop-exit.invariant table)
    (exit_is n n.states mask whole c.in-Some.state exit (is table)))

pub returns : goal.returns
returns c = λ table.
    all_mapped (exit_at c.args.nodes.now) (exit_in c.args.nodes.now c.args.mask.now c.args.whole.now) c.args.exits.now
    c.loop-exit.exit-index c.loop-exit.found.items c.loop-exit-test.false (c.loop-exit.invariant table)
