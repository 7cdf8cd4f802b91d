use Rattle.std.proofs.Common.{Global, Vec, ◌≡◌, ◌∙◌, [], ℕ, List, Option, map, get_or, IfSome, ap, subst}
use Rattle.state_table.specs.Table.{IsTable}
use Rattle.call_rules.specs.Framed.{IsPart}
use Rattle.call_table.specs.declared.call.Exit.{Exit}
use Rattle.call_nodes.specs.Nodes.{state_at}
use Rattle.call_proof.specs.Parts.{exit_at, exit_in, frame_at, masks_of}
use Rattle.call_proof.proofs.Lifting.{whole_is}
use Rattle.call_proof.proofs.whole.whole_call.Goals as goal

pub returns : goal.returns
returns c = λ table.
    (let n = c.args.nodes.now in
    let masks = masks_of c.args.frames.now in
    let call = c.in-Some-get.call.now in
    let part = subst (λ (o : Option ℕ). IfSome o (λ (k : ℕ). IsTable n.atoms
    → IsPart (frame_at n masks c.args.node) (state_at n c.args.state) (state_at n k))) c.in-Some.is c.in_ok-part.ensures in
    let exits = subst (λ (o : Option (Vec Exit Global)). IfSome o (λ (es : Vec Exit Global). IsTable n.atoms → map (exit_at n) es.items
    ≡ map (exit_in n (get_or masks c.args.node []) (get_or n.states c.args.state [])) c.deref.result.now)) c.in-Some-2.is c.in_ok-exits.ensures in
    whole_is n masks c.args.table.now c.args.state c.args.node c.in-Some.part call c.in-Some-2.exits.items (part table)
    c.in-Some-get.ensures.value
    (exits table
    ∙ ap (λ (es : List Exit). map (exit_in n (get_or masks c.args.node []) (get_or n.states c.args.state [])) es)
    c.deref.ensures.value))
