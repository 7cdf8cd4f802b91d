use Rattle.std.proofs.Common.{Global, Vec, ◌≡◌, [], map, get_or}
use Rattle.state_table.specs.Table.{IsTable}
use Rattle.call_table.specs.declared.call.Exit.{Exit}
use Rattle.call_nodes.proofs.Leading.{some_so}
use Rattle.call_proof.specs.Parts.{exit_at, exit_in, masks_of}
use Rattle.call_proof.proofs.Lifting.{exits_are}
use Rattle.call_proof.proofs.whole.exits_at.Goals as goal

pub returns : goal.returns
returns c =
    let n = c.args.nodes.now in
    let masks = masks_of c.args.frames.now in
    let exits = c.args.exits.now in
    let mask = c.in-Some-mask.mask.now in
    let whole = c.in-Some.whole.now in
    some_so (λ (es : Vec Exit Global). IsTable n.atoms → map (exit_at n) es.items ≡ map (exit_in n mask whole) exits)
    (λ (es : Vec Exit Global). IsTable n.atoms
    → map (exit_at n) es.items ≡ map (exit_in n (get_or masks c.args.node []) (get_or n.states c.args.state [])) exits)
    c.in_ok-found.found
    (λ (es : Vec Exit Global) are table. exits_are n masks mask whole c.args.state c.args.node es.items exits c.in-Some.ensures
    c.in-Some-mask.ensures (are table))
    c.in_ok-found.ensures
